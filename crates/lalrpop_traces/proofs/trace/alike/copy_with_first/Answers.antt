use Rattle.std.proofs.Common.{[], ◌∷◌, drop, subst}
use Rattle.lalrpop_traces.specs.Words.{AddsInOrder, Graph, own_edge, plain_edges}
use Rattle.lalrpop_traces.proofs.theory.traces.TraceOrder.{order_append}
use Rattle.lalrpop_traces.proofs.trace.alike.copy_with_first.Goals as goal

pub returns : goal.returns
returns c =
    let item = c.args.item.now in
    let first = own_edge item.production item.index ∷ [] in
    let others = drop 1 (plain_edges c.args.graph.now) in
    let P : Graph → Type 0 = λ g. AddsInOrder g c.add_others.new.copy (own_edge item.production item.index ∷ others) in
    subst P c.new-copy.ensures (order_append c.new-copy.result c.add_own.new.graph c.add_others.new.copy first others c.in_ok-add_own.ensures.in_order c.in_ok-add_others.ensures)
