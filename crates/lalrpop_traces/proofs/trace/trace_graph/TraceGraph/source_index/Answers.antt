use Rattle.std.proofs.Common.{◌≡◌, subst, arith}
use Rattle.std.specs.Prelude.{Some, slice_get}
use Rattle.lalrpop_collections.proofs.theory.lists.Places.{slice_get_at}
use Rattle.lalrpop_traces.specs.Words.{Graph, IsGraph, source_of}
use Rattle.lalrpop_traces.specs.declared.trace.node.TraceGraphNode.{TraceGraphNode}
use Rattle.lalrpop_traces.proofs.theory.traces.TraceGraphs.{kept_graph}
use Rattle.lalrpop_traces.proofs.theory.traces.KeptGraphs.{source_there}
use Rattle.lalrpop_traces.proofs.trace.trace_graph.TraceGraph.source_index.Goals as goal

pub returns-then-edge-len-clause-graph : goal.returns-then-edge-len-clause-graph
returns-then-edge-len-clause-graph c = subst IsGraph c.self.view_is (kept_graph c.self.invariant)

pub returns-clause-graph : goal.returns-clause-graph
returns-clause-graph c = subst IsGraph c.self.view_is (kept_graph c.self.invariant)

pub returns-clause-some : goal.returns-clause-some
returns-clause-some c =
    let number = c.index.result.now in
    let sources = c.self.inside.sources.items in
    let ok = c.self.inside.sources.ok in
    let len = c.len.ensures in
    let test = c.if-edge-len.false in
    let at : slice_get sources c.args.edge ≡ Some number = slice_get_at sources c.args.edge number (omega arith) c.index.ensures in
    let P : Graph → Type 0 = λ g. (node : TraceGraphNode) × (slice_get g.nodes number ≡ Some node) × (source_of (slice_get g.edges c.args.edge) ≡ Some node) in
    subst P c.self.view_is (source_there c.args.edge number at c.self.invariant)
