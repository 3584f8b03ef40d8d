use Rattle.std.proofs.Common.{◌-◌, length}
use Rattle.lalrpop_follow_sets.proofs.theory.follow_sets.FollowWalks.{IsWalking}
use Rattle.lalrpop_follow_sets.proofs.follow_sets.walk.walk.Given as goal

abbrev pub invariant-loop-symbol : goal.invariant-loop-symbol
invariant-loop-symbol l = IsWalking l.fn.pass l.fn.from l.fn.expansion l.fn.ends.items l.state l.item l.ends.items

abbrev pub decreases-loop-symbol : goal.decreases-loop-symbol
decreases-loop-symbol l = length l.fn.pass.numbers.now.items.items - l.item
