use Rattle.std.proofs.Common.{◌≡◌, ◌∙◌, ◌+◌, ◌++◌, ◌∷◌, [], List, ap, map, subst, sym, take}
use Rattle.std.proofs.lemmas.List.{take_all, take_more, map-append}
use Rattle.lalrpop_traces.specs.Words.{AddsInOrder, PlainEdge, plain}
use Rattle.lalrpop_traces.specs.declared.trace.trace_graph.TraceGraphEdge.{TraceGraphEdge}
use Rattle.lalrpop_traces.proofs.theory.traces.TraceOrder.{order_append, order_none}
use Rattle.lalrpop_traces.proofs.trace.alike.add_copies.Goals as goal

pub loop-edge-init : goal.loop-edge-init
loop-edge-init c = order_none c.args.copy.now

pub loop-edge-preserved : goal.loop-edge-preserved
loop-edge-preserved c =
    let es : List TraceGraphEdge = c.args.edges.now in
    let i = c.loop-edge.edge-index in
    let e : TraceGraphEdge = c.edge-item.result in
    let more : take (i + 1) es ≡ take i es ++ e ∷ [] = take_more es i e c.loop-edge-test.true ∙ ap (λ (x : TraceGraphEdge). take i es ++ x ∷ []) (sym c.edge-item.is) in
    subst (λ (xs : List PlainEdge). AddsInOrder c.args.copy.now c.add_copy.new.copy xs) (sym (ap (λ (xs : List TraceGraphEdge). map plain xs) more ∙ map-append plain (take i es) (e ∷ [])))
    (order_append c.args.copy.now c.loop-edge.copy c.add_copy.new.copy (map plain (take i es)) (plain e ∷ []) c.loop-edge.invariant c.in_ok-add_copy.ensures)

pub returns : goal.returns
returns c = subst (λ (xs : List TraceGraphEdge). AddsInOrder c.args.copy.now c.loop-edge.copy (map plain xs)) (take_all c.loop-edge.edge-index c.args.edges.now c.loop-edge-test.false) c.loop-edge.invariant
