use Rattle.std.proofs.Common.{◌≡◌, ◌∙◌, ◌+◌, ◌++◌, ◌∷◌, [], subst, sym, refl, ap, take, List}
use Rattle.std.proofs.lemmas.List.{take_more, take_all}
use Rattle.lalrpop_check.proofs.Types.{Production}
use Rattle.lalrpop_base.specs.Words.{IsOneAtStart, Visits}
use Rattle.lalrpop_check.proofs.theory.check.CheckClosing.{Begun-none, Begun-more}
use Rattle.lalrpop_check.proofs.check.closing.visit_productions.Goals as goal

pub loop-production-init : goal.loop-production-init
loop-production-init c = Begun-none c.args.walk.now

pub loop-production-preserved : goal.loop-production-preserved
loop-production-preserved c =
    let ps : List Production = c.productions_for-production-items.result.now in
    let i = c.loop-production.production-index in
    let p : Production = c.production-item.result in
    let more : take (i + 1) ps ≡ take i ps ++ p ∷ [] = take_more ps i p c.loop-production-test.true ∙ ap (λ (q : Production). take i ps ++ q ∷ []) (sym c.production-item.is) in
    subst (λ (qs : List Production). Visits (IsOneAtStart qs) c.args.walk.now c.visit.new.walk) (sym more)
    (Begun-more (take i ps) p _ _ _ _ refl refl c.loop-production.invariant c.in_ok-visit.ensures)

pub returns : goal.returns
returns c =
    let ps : List Production = c.productions_for-production-items.result.now in
    subst (λ (qs : List Production). Visits (IsOneAtStart qs) c.args.walk.now c.loop-production.walk) (take_all c.loop-production.production-index ps c.loop-production-test.false ∙ c.productions_for-production-items.ensures) c.loop-production.invariant
