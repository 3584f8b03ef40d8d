use Rattle.std.proofs.Common.{take}
use Rattle.lalrpop_follow_sets.specs.follow_sets.FollowWalks.{AreUnions}
use Rattle.lalrpop_follow_sets.proofs.follow_sets.unions.unions_of.Given as goal

abbrev pub invariant-loop-entry : goal.invariant-loop-entry
invariant-loop-entry l = AreUnions l.follow (take l.entry-index l.lookback) l.reductions l.unions.items
