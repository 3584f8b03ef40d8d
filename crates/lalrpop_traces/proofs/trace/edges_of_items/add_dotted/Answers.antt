use Rattle.std.proofs.Common.{refl, subst}
use Rattle.std.specs.Prelude.{Contains}
use Rattle.lalrpop_traces.specs.Words.{PlainEdge, plain_edges}
use Rattle.lalrpop_traces.proofs.theory.traces.TraceOrder.{order_again, order_one}
use Rattle.lalrpop_traces.proofs.theory.traces.Traces.{plain_dot}
use Rattle.lalrpop_traces.proofs.trace.edges_of_items.add_dotted.Goals as goal

pub returns-then-is_there : goal.returns-then-is_there
returns-then-is_there g c =
    let labels = c.symbol_sets-labels in
    let is = plain_dot c.args.from c.args.to labels.result c.args.item.now.production c.args.item.now.index labels.ensures.prefix labels.ensures.cursor labels.ensures.suffix in
    let P : PlainEdge → Type 0 = Contains (plain_edges c.args.graph.now) in
    record { in_order = order_again c.args.graph.now c.edges-number.ensures.graph _ (subst P is (c.if-is_there.ensures.there refl)) }

pub returns : goal.returns
returns g c =
    let labels = c.symbol_sets-labels in
    record {
      in_order = order_one c.args.graph.now c.add_edge.new.self _ _ c.in_ok-add_edge.ensures.added c.in_ok-add_edge.ensures.nodes
          (plain_dot c.args.from c.args.to labels.result c.args.item.now.production c.args.item.now.index labels.ensures.prefix labels.ensures.cursor labels.ensures.suffix);
    }
