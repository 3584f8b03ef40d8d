use Rattle.std.proofs.Common.{◌≡◌, ℕ, ◌<◌}
use Rattle.std.specs.Prelude.{slice_get, Some}
use Rattle.lalrpop_traces.specs.Words.{IsFrom}
use Rattle.lalrpop_traces.specs.declared.trace.node.TraceGraphNode.{TraceGraphNode}
use Rattle.lalrpop_traces.specs.declared.trace.trace_graph.TraceGraphEdge.{TraceGraphEdge}
use Rattle.lalrpop_traces.proofs.trace.trace_graph.TraceGraph.has_edge.Given as goal

abbrev pub invariant-loop-number : goal.invariant-loop-number
invariant-loop-number l = (node : TraceGraphNode) (j p : ℕ) (e : TraceGraphEdge) → slice_get l.self.nodes l.source.0 ≡ Some node → j < l.number-index → slice_get l.number-items j ≡ Some p → slice_get l.self.edges p ≡ Some e → ¬ IsFrom node l.labels e
