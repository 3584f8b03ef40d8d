use Rattle.std.proofs.Common.{◌≡◌, ap, map, subst, sym, ◌∙◌, refl}
use Rattle.std.specs.Prelude.{Contains, Some, slice_get}
use Rattle.std.proofs.lemmas.Option.{slice_get-get_or}
use Rattle.lalrpop_traces.specs.Words.{PlainEdge, plain}
use Rattle.lalrpop_traces.specs.declared.trace.trace_graph.TraceGraphEdge.{TraceGraphEdge}
use Rattle.lalrpop_traces.proofs.theory.traces.TraceGraphs.{from_plain, plain_there}
use Rattle.lalrpop_traces.proofs.trace.trace_graph.TraceGraph.is_edge_at.Goals as goal

pub returns-clause-there : goal.returns-clause-there
returns-clause-there c = λ h.
    let edges = c.args.self.now.edges in
    let n = c.args.number in
    let e = c.index-edges-number.result in
    let at : slice_get edges n ≡ Some e = ap (λ es. slice_get es n) (sym c.edges-edges.ensures.edges) ∙ slice_get-get_or c.edges-edges.result.now n e c.if-number-edges.false ∙ ap (λ (x : TraceGraphEdge). Some x) (sym c.index-edges-number.is) in
    let is = (c.is_edge.ensures.there e at).0 h in
    let P : PlainEdge → Type 0 = Contains (map plain edges) in
    subst P (from_plain c.args.from.now c.args.to.now c.args.labels.now e (ap (λ (x : TraceGraphEdge). x.to) c.index-edges-number.is ∙ c.if-not-equal.ensures.0 refl) is) (plain_there edges n e at)
