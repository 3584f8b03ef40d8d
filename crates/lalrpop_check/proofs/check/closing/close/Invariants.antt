use Rattle.std.proofs.Common.{◌+◌, ◌-◌, length}
use Rattle.lalrpop_check.proofs.theory.check.CheckClosing.{IsClosing, room}
use Rattle.lalrpop_check.proofs.check.closing.close.Given as goal

abbrev pub invariant-loop-item : goal.invariant-loop-item
invariant-loop-item l = IsClosing l.grammar l.fn.walk.visited.keys l.walk

abbrev pub decreases-loop-item : goal.decreases-loop-item
decreases-loop-item l = length (room l.grammar l.fn.walk.visited.keys) + length l.walk.waiting.items - length l.walk.visited.keys
