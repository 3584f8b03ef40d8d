use Rattle.std.proofs.Common.{◌≡◌, ◌∙◌, ◌+◌, ◌++◌, ◌∷◌, [], subst, sym, ap, take, List}
use Rattle.std.proofs.lemmas.List.{take_more, take_all}
use Rattle.lalrpop_useful.proofs.Types.{Production}
use Rattle.lalrpop_useful.specs.Words.{AreTried}
use Rattle.lalrpop_useful.proofs.theory.useful.Productive.{Tried-start, Tried-more}
use Rattle.lalrpop_useful.proofs.productive.try_each.Goals as goal

pub loop-production-init : goal.loop-production-init
loop-production-init c = Tried-start c.args.walk.now

pub loop-production-preserved : goal.loop-production-preserved
loop-production-preserved c =
    let ps : List Production = c.args.productions.now in
    let i = c.loop-production.production-index in
    let p : Production = c.production-item.result in
    let more : take (i + 1) ps ≡ take i ps ++ p ∷ [] = take_more ps i p c.loop-production-test.true ∙ ap (λ (q : Production). take i ps ++ q ∷ []) (sym c.production-item.is) in
    subst (λ (qs : List Production). AreTried qs c.args.walk.now c.try_one.new.walk) (sym more)
    (Tried-more (take i ps) p _ _ _ c.loop-production.invariant c.in_ok-try_one.ensures)

pub returns : goal.returns
returns c = subst (λ (qs : List Production). AreTried qs c.args.walk.now c.loop-production.walk) (take_all c.loop-production.production-index c.args.productions.now c.loop-production-test.false) c.loop-production.invariant
