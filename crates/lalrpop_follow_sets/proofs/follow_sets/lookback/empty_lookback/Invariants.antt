use Rattle.lalrpop_follow_sets.specs.follow_sets.FollowWalks.{AreEmptyLists}
use Rattle.lalrpop_follow_sets.proofs.follow_sets.lookback.empty_lookback.Given as goal

abbrev pub invariant-loop-place : goal.invariant-loop-place
invariant-loop-place l = AreEmptyLists l._place l.lookback.items
