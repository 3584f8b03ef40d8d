use Rattle.std.proofs.Common.{subst}
use Rattle.lalrpop_traces.specs.Words.{IsGraph}
use Rattle.lalrpop_traces.proofs.theory.traces.TraceGraphs.{kept_graph}
use Rattle.lalrpop_traces.proofs.trace.trace_graph.TraceGraph.edges.Goals as goal

pub returns-clause-graph : goal.returns-clause-graph
returns-clause-graph c = subst IsGraph c.self.view_is (kept_graph c.self.invariant)
