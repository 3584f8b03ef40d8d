use Rattle.std.proofs.Common.{◌≡◌, ◌<◌, ℕ}
use Rattle.std.specs.Prelude.{slice_get, Some}
use Rattle.lalrpop_traces.specs.Words.{IsKnownLabel}
use Rattle.lalrpop_traces.specs.declared.trace.trace_graph.TraceGraphEdge.{TraceGraphEdge}
use Rattle.lalrpop_traces.proofs.trace.trace_graph.TraceGraph.is_known.Given as goal

abbrev pub invariant-loop-number : goal.invariant-loop-number
invariant-loop-number l = (k : ℕ) (e : TraceGraphEdge) → k < l.number → slice_get l.self.edges k ≡ Some e → IsKnownLabel l.terminals e.symbol_sets
