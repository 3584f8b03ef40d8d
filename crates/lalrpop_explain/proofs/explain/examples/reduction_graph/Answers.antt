use Rattle.std.proofs.Common.{◌∙◌, ap}
use Rattle.lalrpop_base.specs.Words.{Bits, Dotted}
use Rattle.lalrpop_traces.specs.Words.{dotted}
use Rattle.lalrpop_explain.proofs.theory.explained.TracedExamples.{traced_graph}
use Rattle.lalrpop_explain.proofs.explain.examples.reduction_graph.Goals as goal

pub returns : goal.returns
returns c =
    let context = c.args.context.now in
    traced_graph context.first_sets.now context.tracer.context.first_sets.now context.states.now context.tracer.context.states.now context.traced_rules context.traced_states c.args.state c.lr0-finished.result c.args.item.now
    (c.lr0-finished.ensures ∙ ap (λ (i : Dotted Bits). dotted i.production i.index) c.item.view_is) c.requires.states c.requires.item c.in_ok-graph.graph c.in_ok-graph.ensures.traced c.in_ok-graph.ensures.ordered c.in_ok-graph.ensures.known
