use Rattle.std.proofs.Common.{◌≡◌, ◌∙◌, ◌+◌, ◌++◌, ◌∷◌, [], subst, sym, ap, map, take, List}
use Rattle.std.specs.Borrow.{Bor}
use Rattle.std.proofs.lemmas.List.{map-append, take_more, take_all}
use Rattle.lalrpop_useful.proofs.Types.{Production, Symbol}
use Rattle.lalrpop_useful.specs.Words.{AddsUser, HasUsers}
use Rattle.lalrpop_useful.proofs.theory.useful.Users.{Users-none, Users-more}
use Rattle.lalrpop_useful.proofs.users.users_of.Goals as goal

abbrev seen : List (Bor Production) → List Production
seen ps = map (λ (p : Bor Production). p.now) ps

pub loop-production-init : goal.loop-production-init
loop-production-init c = Users-none _

pub loop-production-preserved : goal.loop-production-preserved
loop-production-preserved c =
    let ps : List (Bor Production) = c.args.all.now in
    let i = c.loop-production.production-index in
    let p : Bor Production = c.production-item.result in
    let more : take (i + 1) ps ≡ take i ps ++ p ∷ [] = take_more ps i p c.loop-production-test.true ∙ ap (λ (q : Bor Production). take i ps ++ q ∷ []) (sym c.production-item.is) in
    let pushed : seen (take (i + 1) ps) ≡ seen (take i ps) ++ p.now ∷ [] = ap seen more ∙ map-append (λ (q : Bor Production). q.now) (take i ps) (p ∷ []) in
    subst (λ (qs : List Production). HasUsers qs c.add_user.new.users) (sym pushed)
    (Users-more (seen (take i ps)) p.now _ _ c.loop-production.invariant (subst (λ (l : List Symbol). AddsUser p.now.nonterminal l c.loop-production.users c.add_user.new.users) c.as_slice-symbols.ensures c.in_ok-add_user.ensures))

pub returns : goal.returns
returns c = subst (λ (qs : List (Bor Production)). HasUsers (seen qs) c.loop-production.users) (take_all c.loop-production.production-index c.args.all.now c.loop-production-test.false) c.loop-production.invariant
