use Rattle.std.proofs.Common.{refl}
use Rattle.lalrpop_collections.proofs.theory.lists.EachLemmas.{each_below_more, each_of_below}
use Rattle.lalrpop_collections.proofs.theory.lists.Places.{slice_get_at}
use Rattle.lalrpop_states.proofs.lr1_core.all_conflicts.have_no_conflict.Goals as goal

pub returns-then-not-branch : goal.returns-then-not-branch
returns-then-not-branch c = (
  λ h. cc,
  λ all.
      let there = slice_get_at c.args.states.now c.loop-state.state-index c.state-item.result c.loop-state-test.true c.state-item.is in
      let yes = c.in_ok-has_no_conflict.ensures.1 (all c.loop-state.state-index c.state-item.result there) in
      cc,
)

pub loop-state-preserved : goal.loop-state-preserved
loop-state-preserved c = each_below_more _ _ _ _ c.loop-state-test.true c.state-item.is (c.in_ok-has_no_conflict.ensures.0 c.if-not-branch.false) c.loop-state.invariant

pub returns : goal.returns
returns c = (λ h. each_of_below _ _ _ c.loop-state-test.false c.loop-state.invariant, λ h. refl)
