use Rattle.lalrpop_collections.proofs.theory.lists.EachLemmas.{each_below_more, each_of_below, each_at}
use Rattle.std.proofs.Common.{refl}
use Rattle.lalrpop_check.proofs.check.carrying.have_carried.Goals as goal

pub returns-then-not-branch : goal.returns-then-not-branch
returns-then-not-branch c = (
  λ h. cc,
  λ each. let yes = c.in_ok-holds_carried.ensures.1 (each_at _ _ _ _ c.loop-reduction-test.true c.reduction-item.is each) in cc,
)

pub loop-reduction-preserved : goal.loop-reduction-preserved
loop-reduction-preserved c = each_below_more _ _ _ _ c.loop-reduction-test.true c.reduction-item.is (c.in_ok-holds_carried.ensures.0 c.if-not-branch.false) c.loop-reduction.invariant

pub returns : goal.returns
returns c = (λ h. each_of_below _ _ _ c.loop-reduction-test.false c.loop-reduction.invariant, λ each. refl)
