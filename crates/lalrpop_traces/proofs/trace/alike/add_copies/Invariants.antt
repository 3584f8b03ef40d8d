use Rattle.std.proofs.Common.{map, take}
use Rattle.lalrpop_traces.specs.Words.{AddsInOrder, plain}
use Rattle.lalrpop_traces.proofs.trace.alike.add_copies.Given as goal

abbrev pub invariant-loop-edge : goal.invariant-loop-edge
invariant-loop-edge l = AddsInOrder l.fn.copy l.copy (map plain (take l.edge-index l.edges))
