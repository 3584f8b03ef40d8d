use Rattle.std.proofs.Common.{refl}
use Rattle.lalrpop_collections.proofs.theory.lists.EachLemmas.{each_below_more, each_of_below, each_at}
use Rattle.lalrpop_states.proofs.lr1_core.coherent.are_finished.Goals as goal

pub returns-then-not-has_item : goal.returns-then-not-has_item
returns-then-not-has_item g c = (
  λ h. cc,
  λ each. c.if-not-has_item.ensures.1 (rw c.len.ensures (each_at _ _ _ _ c.loop-reduction-test.true c.reduction-item.is each)),
)

pub loop-reduction-preserved : goal.loop-reduction-preserved
loop-reduction-preserved g c =
    each_below_more _ _ _ _ c.loop-reduction-test.true c.reduction-item.is (rw (← c.len.ensures) (c.if-not-has_item.ensures.0 refl)) c.loop-reduction.invariant

pub returns : goal.returns
returns g c = (λ h. each_of_below _ _ _ c.loop-reduction-test.false c.loop-reduction.invariant, λ h. refl)
