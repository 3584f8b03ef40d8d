use Rattle.std.proofs.Common.{◌+◌, ◌-◌, ◌∷◌, length, reverse}
use Rattle.std.specs.List.{range_with_len}
use Rattle.lalrpop_traces.specs.Words.{path_of}
use Rattle.lalrpop_traces.proofs.theory.traces.Ends.{IsSearching}
use Rattle.lalrpop_traces.proofs.trace.ends.can_end.Given as goal

abbrev pub invariant-loop-next : goal.invariant-loop-next
invariant-loop-next l = IsSearching l.graph (path_of (reverse l.path)) l.fn.edge l.walk

abbrev pub decreases-loop-next : goal.decreases-loop-next
decreases-loop-next l = length (l.fn.edge ∷ range_with_len 0 (length l.graph.edges)) + length l.walk.waiting.items - length l.walk.visited.keys
