use Rattle.std.proofs.Common.{◌+◌, ◌-◌, length}
use Rattle.lalrpop_useful.proofs.theory.useful.Cycles.{IsDeriving, room}
use Rattle.lalrpop_useful.proofs.cycles.derived_alone.Given as goal

abbrev pub invariant-loop-next : goal.invariant-loop-next
invariant-loop-next l = IsDeriving l.grammar l.name l.walk

abbrev pub decreases-loop-next : goal.decreases-loop-next
decreases-loop-next l = length (room l.grammar l.name) + length l.walk.waiting.items - length l.walk.visited.keys
