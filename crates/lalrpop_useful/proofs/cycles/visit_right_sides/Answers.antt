use Rattle.std.proofs.Common.{◌≡◌, ◌∙◌, ◌+◌, ◌++◌, ◌∷◌, [], subst, sym, ap, take, List}
use Rattle.std.proofs.lemmas.List.{take_more, take_all}
use Rattle.lalrpop_collections.specs.Words.{Visits}
use Rattle.lalrpop_useful.proofs.Types.{Production, Symbol}
use Rattle.lalrpop_useful.specs.Words.{IsAlone, IsAloneOn}
use Rattle.lalrpop_useful.proofs.theory.useful.Cycles.{Alone-none, Alone-more}
use Rattle.lalrpop_useful.proofs.cycles.visit_right_sides.Goals as goal

pub loop-production-init : goal.loop-production-init
loop-production-init c = Alone-none c.args.sets.now.productions c.args.walk.now

pub loop-production-preserved : goal.loop-production-preserved
loop-production-preserved c =
    let g = c.args.sets.now.productions in
    let ps : List Production = c.args.productions.now in
    let i = c.loop-production.production-index in
    let p : Production = c.production-item.result in
    let more : take (i + 1) ps ≡ take i ps ++ p ∷ [] = take_more ps i p c.loop-production-test.true ∙ ap (λ (q : Production). take i ps ++ q ∷ []) (sym c.production-item.is) in
    subst (λ (qs : List Production). Visits (IsAloneOn g qs) c.args.walk.now c.visit_places.new.walk) (sym more)
    (Alone-more g (take i ps) p _ _ _ c.loop-production.invariant
    (subst (λ (l : List Symbol). Visits (IsAlone g l) c.loop-production.walk c.visit_places.new.walk) c.as_slice.ensures c.in_ok-visit_places.ensures))

pub returns : goal.returns
returns c = subst (λ (qs : List Production). Visits (IsAloneOn c.args.sets.now.productions qs) c.args.walk.now c.loop-production.walk) (take_all c.loop-production.production-index c.args.productions.now c.loop-production-test.false) c.loop-production.invariant
