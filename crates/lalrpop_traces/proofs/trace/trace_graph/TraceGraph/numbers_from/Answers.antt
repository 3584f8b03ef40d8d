use Rattle.std.proofs.Common.{refl, sym, ap, ◌∙◌}
use Rattle.std.specs.Prelude.{slice_get}
use Rattle.lalrpop_traces.specs.Words.{numbers_to_source}
use Rattle.lalrpop_traces.proofs.theory.traces.KeptGraphs.{to_source}
use Rattle.lalrpop_traces.proofs.trace.trace_graph.TraceGraph.numbers_from.Goals as goal

pub returns-in_default : goal.returns-in_default
returns-in_default c = sym (ap (numbers_to_source c.args.self.now) (c.in_default.ensures.none refl))

pub returns : goal.returns
returns c =
    let node = c.in-Some.ensures.some in
    c.numbers_at.ensures node.0 node.1 ∙ to_source c.args.self.now (slice_get c.args.self.now.edges c.args.edge) node.0 node.2
