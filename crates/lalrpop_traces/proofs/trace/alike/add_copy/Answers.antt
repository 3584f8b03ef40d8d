use Rattle.std.proofs.Common.{ap, ◌∙◌}
use Rattle.lalrpop_traces.specs.Words.{plain_edge}
use Rattle.lalrpop_traces.specs.declared.trace.node.TraceGraphNode.{TraceGraphNode}
use Rattle.lalrpop_traces.proofs.theory.traces.TraceOrder.{order_one}
use Rattle.lalrpop_traces.proofs.trace.alike.add_copy.Goals as goal

pub returns : goal.returns
returns c =
    let e = c.args.edge.now in
    order_one c.args.copy.now c.add_edge.new.self _ _ c.in_ok-add_edge.ensures.added c.in_ok-add_edge.ensures.nodes
    (ap (λ (n : TraceGraphNode). plain_edge n c.in_ok-to.to e.symbol_sets) c.in_ok-from.ensures ∙ ap (λ (n : TraceGraphNode). plain_edge e.from n e.symbol_sets) c.in_ok-to.ensures)
