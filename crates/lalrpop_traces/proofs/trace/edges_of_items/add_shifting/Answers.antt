use Rattle.std.proofs.Common.{[], ◌∷◌, sym, ap}
use mathlib.Core.Bool.{true≢false}
use Rattle.lalrpop_traces.specs.Words.{PlainEdge, stop_edge, onward_edge, onward_edges, dotted, dot_edge, own_edge, AddsInOrder}
use Rattle.lalrpop_traces.specs.declared.trace.context.Traced.{Traced}
use Rattle.lalrpop_traces.specs.declared.trace.node.TraceGraphNode.TheVariants.{Nonterminal, Item}
use Rattle.lalrpop_traces.proofs.theory.traces.TraceOrder.{order_as, order_append}
use Rattle.lalrpop_traces.proofs.theory.traces.Traces.{dot_same}
use Rattle.lalrpop_traces.proofs.trace.edges_of_items.add_shifting.Goals as goal

pub returns-then-not-goes_on-clause-onward : goal.returns-then-not-goes_on-clause-onward
returns-then-not-goes_on-clause-onward c = λ h. absurd (true≢false (sym h))

pub returns-then-not-goes_on-clause-stopped : goal.returns-then-not-goes_on-clause-stopped
returns-then-not-goes_on-clause-stopped c = λ h.
    let item = c.args.item.now in
    let to = Nonterminal c.in_ok-clone.field-0 in
    order_as c.args.graph.now c.add_dotted.new.graph (dot_edge c.node_of.result to item.production item.index ∷ []) (stop_edge c.args.name.now item ∷ []) c.in_ok-add_dotted.ensures.in_order
    (ap (λ (e : PlainEdge). e ∷ []) (dot_same c.node_of.result to (Item (dotted item.production item.index)) (Nonterminal c.args.name.now) item.production item.index c.node_of.ensures (ap Nonterminal c.in_ok-clone.ensures)))

pub returns-in-Shift-clause-onward : goal.returns-in-Shift-clause-onward
returns-in-Shift-clause-onward c = λ h.
    let onward : AddsInOrder c.args.graph.now c.add_dotted-2.new.graph (onward_edge c.args.name.now c.args.item.now ∷ []) = order_as c.args.graph.now c.add_dotted-2.new.graph (dot_edge c.in_ok-from.from (Nonterminal c.in_ok-clone.field-0) c.args.item.now.production c.args.item.now.index ∷ []) (onward_edge c.args.name.now c.args.item.now ∷ []) c.in_ok-add_dotted-2.ensures.in_order
    (ap (λ (e : PlainEdge). e ∷ []) (dot_same c.in_ok-from.from (Nonterminal c.in_ok-clone.field-0) (Nonterminal c.args.item.now.production.nonterminal) (Nonterminal c.args.name.now) c.args.item.now.production c.args.item.now.index c.in_ok-from.ensures (ap Nonterminal c.in_ok-clone.ensures))) in
    order_as c.args.graph.now c.add_dotted-2.new.graph (onward_edge c.args.name.now c.args.item.now ∷ []) (onward_edges c.args.trace.now.traced c.args.name.now c.args.item.now) onward
    (ap (λ (t : Traced). onward_edges t c.args.name.now c.args.item.now) (sym c.in-Shift.is))

pub returns-in-Shift-clause-stopped : goal.returns-in-Shift-clause-stopped
returns-in-Shift-clause-stopped c = λ h. absurd (true≢false h)

pub returns-in_ok-add_own-in-Reduce-clause-onward : goal.returns-in_ok-add_own-in-Reduce-clause-onward
returns-in_ok-add_own-in-Reduce-clause-onward c = λ h.
    let onward : AddsInOrder c.args.graph.now c.add_dotted-2.new.graph (onward_edge c.args.name.now c.args.item.now ∷ []) = order_as c.args.graph.now c.add_dotted-2.new.graph (dot_edge c.in_ok-from.from (Nonterminal c.in_ok-clone.field-0) c.args.item.now.production c.args.item.now.index ∷ []) (onward_edge c.args.name.now c.args.item.now ∷ []) c.in_ok-add_dotted-2.ensures.in_order
    (ap (λ (e : PlainEdge). e ∷ []) (dot_same c.in_ok-from.from (Nonterminal c.in_ok-clone.field-0) (Nonterminal c.args.item.now.production.nonterminal) (Nonterminal c.args.name.now) c.args.item.now.production c.args.item.now.index c.in_ok-from.ensures (ap Nonterminal c.in_ok-clone.ensures))) in
    let item = c.args.item.now in
    let first = onward_edge c.args.name.now item in
    let own = own_edge item.production item.index in
    order_as c.args.graph.now c.add_own.new.graph (first ∷ own ∷ []) (onward_edges c.args.trace.now.traced c.args.name.now item)
    (order_append c.args.graph.now c.add_dotted-2.new.graph c.add_own.new.graph (first ∷ []) (own ∷ []) onward c.in_ok-add_own-in-Reduce.ensures.in_order)
    (ap (λ (t : Traced). onward_edges t c.args.name.now item) (sym c.in-Reduce.is))

pub returns-in_ok-add_own-in-Reduce-clause-stopped : goal.returns-in_ok-add_own-in-Reduce-clause-stopped
returns-in_ok-add_own-in-Reduce-clause-stopped c = λ h. absurd (true≢false h)
