use Rattle.std.proofs.Common.{◌≡◌, List, [], OnOk, drop, map, sym, ◌∙◌, subst, arith}
use Rattle.std.proofs.lemmas.List.{nil_from_length}
use Rattle.lalrpop_traces.specs.Words.{AddsInOrder, plain}
use Rattle.lalrpop_traces.specs.declared.trace.trace_graph.TraceGraphEdge.{TraceGraphEdge}
use Rattle.lalrpop_traces.proofs.theory.traces.TraceOrder.{order_none}
use Rattle.lalrpop_traces.proofs.trace.alike.add_others.Goals as goal

pub returns-in_default : goal.returns-in_default
returns-in_default c =
    let none : c.edges.result.now ≡ [] = nil_from_length c.edges.result.now (omega (arith, c.in_default.ensures.cases)) in
    subst (λ (es : List TraceGraphEdge). AddsInOrder c.args.copy.now c.args.copy.now (drop 1 (map plain es))) (sym (sym c.edges.ensures.edges ∙ none)) (order_none c.args.copy.now)

pub returns : goal.returns
returns c = subst (λ (es : List TraceGraphEdge). OnOk c.add_copies.result (AddsInOrder c.args.copy.now c.add_copies.new.copy (drop 1 (map plain es)))) (sym (sym c.edges.ensures.edges ∙ c.in-Some.ensures.cases.0)) c.add_copies.ensures
