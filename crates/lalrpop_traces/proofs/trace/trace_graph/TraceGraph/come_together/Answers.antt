use Rattle.lalrpop_traces.specs.Words.{source}
use Rattle.lalrpop_traces.proofs.theory.traces.KeptGraphs.{one_source}
use Rattle.lalrpop_traces.proofs.trace.trace_graph.TraceGraph.come_together.Goals as goal

pub returns : goal.returns
returns c =
    let graph = c.args.self.now in
    one_source graph.nodes c.in-Some.first.0 c.in-Some-source_index.second.0 (source graph c.args.a) (source graph c.args.b) c.in-Some.ensures.graph.nodes c.in-Some.ensures.some c.in-Some-source_index.ensures.some
