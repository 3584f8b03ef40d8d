use Rattle.lalrpop_follow_sets.specs.follow_sets.FollowWalks.{AreEmptySets}
use Rattle.lalrpop_follow_sets.proofs.follow_sets.initial_sets.empty_sets.Given as goal

abbrev pub invariant-loop-place : goal.invariant-loop-place
invariant-loop-place l = AreEmptySets l._place l.sets.items
