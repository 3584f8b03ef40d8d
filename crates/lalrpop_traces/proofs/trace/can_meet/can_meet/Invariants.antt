use Rattle.std.proofs.Common.{◌+◌, ◌-◌, ◌∷◌, length, reverse}
use Rattle.std.specs.List.{range_with_len}
use Rattle.lalrpop_traces.specs.Words.{path_of}
use Rattle.lalrpop_traces.proofs.theory.traces.CanMeet.{IsMeeting}
use Rattle.lalrpop_traces.proofs.trace.can_meet.can_meet.Given as goal

abbrev pub invariant-loop-next : goal.invariant-loop-next
invariant-loop-next l = IsMeeting l.graph l.first_sets l.lookahead (path_of (reverse l.path)) l.fn.edge l.walk

abbrev pub decreases-loop-next : goal.decreases-loop-next
decreases-loop-next l = length (l.fn.edge ∷ range_with_len 0 (length l.graph.edges)) + length l.walk.waiting.items - length l.walk.visited.keys
