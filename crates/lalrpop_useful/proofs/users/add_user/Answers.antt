use Rattle.std.proofs.Common.{◌≡◌, ◌∙◌, ◌+◌, ◌++◌, ◌∷◌, [], subst, sym, ap, take, List}
use Rattle.std.proofs.lemmas.List.{take_more, take_all}
use Rattle.lalrpop_useful.proofs.Types.{Symbol}
use Rattle.lalrpop_useful.specs.Words.{AddsUser}
use Rattle.lalrpop_useful.proofs.theory.useful.Users.{User-none, User-more}
use Rattle.lalrpop_useful.proofs.users.add_user.Goals as goal

pub loop-symbol-init : goal.loop-symbol-init
loop-symbol-init c = User-none c.args.user.now c.args.users.now

pub loop-symbol-preserved : goal.loop-symbol-preserved
loop-symbol-preserved c =
    let xs : List Symbol = c.args.symbols.now in
    let i = c.loop-symbol.symbol-index in
    let x : Symbol = c.symbol-item.result in
    let more : take (i + 1) xs ≡ take i xs ++ x ∷ [] = take_more xs i x c.loop-symbol-test.true ∙ ap (λ (y : Symbol). take i xs ++ y ∷ []) (sym c.symbol-item.is) in
    subst (λ (ys : List Symbol). AddsUser c.args.user.now ys c.args.users.now c.add_under.new.users) (sym more)
    (User-more c.args.user.now (take i xs) x _ _ _ c.loop-symbol.invariant c.in_ok-add_under.ensures)

pub returns : goal.returns
returns c = subst (λ (ys : List Symbol). AddsUser c.args.user.now ys c.args.users.now c.loop-symbol.users) (take_all c.loop-symbol.symbol-index c.args.symbols.now c.loop-symbol-test.false) c.loop-symbol.invariant
