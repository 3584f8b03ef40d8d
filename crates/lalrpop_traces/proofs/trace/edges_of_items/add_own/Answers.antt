use Rattle.std.proofs.Common.{[], ◌∷◌, ap}
use Rattle.lalrpop_traces.specs.Words.{PlainEdge, dotted, dot_edge, own_edge}
use Rattle.lalrpop_traces.specs.declared.trace.node.TraceGraphNode.TheVariants.{Nonterminal, Item}
use Rattle.lalrpop_traces.proofs.theory.traces.TraceGraphs.{on_ok}
use Rattle.lalrpop_traces.proofs.theory.traces.TraceOrder.{order_as}
use Rattle.lalrpop_traces.proofs.theory.traces.Traces.{dot_same}
use Rattle.lalrpop_traces.proofs.trace.edges_of_items.add_own.Goals as goal

pub returns : goal.returns
returns g c =
    let p = c.args.item.now.production in
    let index = c.args.item.now.index in
    record {
      in_order = on_ok c.add_dotted.result c.add_dotted.ensures.in_order (λ adds. order_as c.args.graph.now c.add_dotted.new.graph (dot_edge c.in_ok-from.from c.node_of.result p index ∷ []) (own_edge p index ∷ []) adds
          (ap (λ (e : PlainEdge). e ∷ []) (dot_same c.in_ok-from.from c.node_of.result (Nonterminal p.nonterminal) (Item (dotted p index)) p index c.in_ok-from.ensures c.node_of.ensures)));
    }
