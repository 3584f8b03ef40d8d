use Rattle.std.proofs.Common.{◌≡◌, ◌∙◌, ◌+◌, ◌++◌, ◌∷◌, [], subst, sym, ap, take, List}
use Rattle.std.proofs.lemmas.List.{take_more, take_all}
use Rattle.lalrpop_grammar.specs.Words.{productions}
use Rattle.lalrpop_useful.proofs.Types.{Symbol}
use Rattle.lalrpop_useful.specs.Words.{AddsUndefined}
use Rattle.lalrpop_useful.proofs.theory.useful.Undefined.{Adds-none, Adds-more}
use Rattle.lalrpop_useful.proofs.undefined.add_uses.Goals as goal

pub loop-symbol-init : goal.loop-symbol-init
loop-symbol-init c = Adds-none (productions c.args.grammar.now) c.args.production.now c.args.uses.now.items

pub loop-symbol-preserved : goal.loop-symbol-preserved
loop-symbol-preserved c =
    let g = productions c.args.grammar.now in
    let p = c.args.production.now in
    let xs : List Symbol = c.args.symbols.now in
    let i = c.loop-symbol.symbol-index in
    let x : Symbol = c.symbol-item.result in
    let more : take (i + 1) xs ≡ take i xs ++ x ∷ [] = take_more xs i x c.loop-symbol-test.true ∙ ap (λ (y : Symbol). take i xs ++ y ∷ []) (sym c.symbol-item.is) in
    subst (λ (ys : List Symbol). AddsUndefined g p ys c.args.uses.now.items c.add_use.new.uses.items) (sym more)
    (Adds-more g p (take i xs) x _ _ _ c.loop-symbol.invariant c.in_ok-add_use.ensures)

pub returns : goal.returns
returns c = subst (λ (ys : List Symbol). AddsUndefined (productions c.args.grammar.now) c.args.production.now ys c.args.uses.now.items c.loop-symbol.uses.items) (take_all c.loop-symbol.symbol-index c.args.symbols.now c.loop-symbol-test.false) c.loop-symbol.invariant
