use Rattle.std.proofs.Common.{◌+◌, ◌-◌, length}
use Rattle.lalrpop_useful.proofs.theory.useful.Reachable.{IsReaching, room}
use Rattle.lalrpop_useful.proofs.reachable.reachable.Given as goal

abbrev pub invariant-loop-name : goal.invariant-loop-name
invariant-loop-name l = IsReaching l.grammar l.start l.walk

abbrev pub decreases-loop-name : goal.decreases-loop-name
decreases-loop-name l = length (room l.grammar l.start) + length l.walk.waiting.items - length l.walk.visited.keys
