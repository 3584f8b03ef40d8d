use Rattle.std.proofs.Common.{◌≡◌, ◌++◌, ◌∷◌, [], map, cond, slice_set, refl, sym, ap, ◌∙◌, subst, arith}
use Rattle.std.specs.Prelude.{is_ok, slice_get, Some, Contains}
use Rattle.lalrpop_base.specs.Words.{by_number}
use Rattle.lalrpop_traces.specs.Words.{Graph, IsKept, plain}
use Rattle.lalrpop_traces.proofs.theory.traces.TraceGraphs.{kept_graph, graph_same}
use Rattle.lalrpop_traces.proofs.theory.traces.KeptGraphs.{kept_refused, kept_pushed, list_within}
use Rattle.lalrpop_traces.proofs.trace.trace_graph.TraceGraph.push_edge.Goals as goal

pub returns-in_err-reserve-clause-graph : goal.returns-in_err-reserve-clause-graph
returns-in_err-reserve-clause-graph c = graph_same (record { nodes = by_number c.self.inside.indices.entries; edges = c.self.inside.edges.items }) _ c.self.inside.edges.items refl c.in_err-reserve.ensures.items refl (kept_graph c.self.invariant)

pub returns-in_err-reserve-2-clause-graph : goal.returns-in_err-reserve-2-clause-graph
returns-in_err-reserve-2-clause-graph c = graph_same (record { nodes = by_number c.self.inside.indices.entries; edges = c.self.inside.edges.items }) _ c.self.inside.edges.items refl c.in_ok-reserve.ensures.items refl (kept_graph c.self.invariant)

pub index_mut-requires : goal.index_mut-requires
index_mut-requires c =
    let ok = c.self.inside.incoming.ok in
    let within = list_within c.args.target.0 c.args.edge.to (ap (λ (g : Graph). slice_get g.nodes c.args.target.0) c.self.view_is ∙ c.requires.to) c.self.invariant in
    omega arith

pub invariant_of-self-in_err-push : goal.invariant_of-self-in_err-push
invariant_of-self-in_err-push c =
    kept_refused c.args.target.0 c.index_mut.result.now c.push.new.self c.in_ok-reserve.ensures.items c.in_ok-reserve-2.ensures.items (list_within c.args.target.0 c.args.edge.to (ap (λ (g : Graph). slice_get g.nodes c.args.target.0) c.self.view_is ∙ c.requires.to) c.self.invariant) c.index_mut.ensures.value c.in_err-push.ensures.items c.self.invariant

pub returns-in_err-push-clause-graph : goal.returns-in_err-push-clause-graph
returns-in_err-push-clause-graph c = graph_same (record { nodes = by_number c.self.inside.indices.entries; edges = c.self.inside.edges.items }) _ c.self.inside.edges.items refl c.in_ok-reserve.ensures.items refl (kept_graph c.self.invariant)

-- the edge is after the others
pushed : (c : goal.After-unwrap-2) → c.push-3.new.self.items ≡ c.self.inside.edges.items ++ c.args.edge ∷ []
pushed c = c.push-3.ensures.items ∙ ap (λ r. cond (is_ok r) (c.reserve.new.self.items ++ c.args.edge ∷ []) c.reserve.new.self.items) c.unwrap-2.ensures ∙ ap (λ xs. xs ++ c.args.edge ∷ []) c.in_ok-reserve.ensures.items

-- the number of its source is after the others
source_pushed : (c : goal.After-unwrap-2) → c.push-2.new.self.items ≡ c.self.inside.sources.items ++ c.args.source.0 ∷ []
source_pushed c = c.push-2.ensures.items ∙ ap (λ r. cond (is_ok r) (c.reserve-2.new.self.items ++ c.args.source.0 ∷ []) c.reserve-2.new.self.items) c.unwrap.ensures ∙ ap (λ xs. xs ++ c.args.source.0 ∷ []) c.in_ok-reserve-2.ensures.items

kept : (c : goal.After-unwrap-2) → IsKept c.self.inside.indices (by_number c.self.inside.indices.entries) c.push-3.new.self.items c.push-2.new.self.items (slice_set c.self.inside.incoming.items c.args.target.0 c.push.new.self)
kept c =
    let P : Graph → Type 0 = λ g. ((slice_get g.nodes c.args.source.0 ≡ Some c.args.edge.from) × (slice_get g.nodes c.args.target.0 ≡ Some c.args.edge.to)) × ¬ Contains (map plain g.edges) (plain c.args.edge) in
    let known : P (record { nodes = by_number c.self.inside.indices.entries; edges = c.self.inside.edges.items }) = subst P (sym c.self.view_is) ((c.requires.from, c.requires.to), c.requires.fresh) in
    kept_pushed c.args.source.0 c.args.target.0 c.len-number.result c.args.edge c.index_mut.result.now c.push.new.self (omega (arith, c.len-number.ensures)) (pushed c) (source_pushed c)
    (list_within c.args.target.0 c.args.edge.to (ap (λ (g : Graph). slice_get g.nodes c.args.target.0) c.self.view_is ∙ c.requires.to) c.self.invariant) c.index_mut.ensures.value c.in_ok-push.ensures.items known.0.0 known.0.1 known.1 c.self.invariant

pub invariant_of-self-2 : goal.invariant_of-self-2
invariant_of-self-2 c = kept c

pub returns-clause-graph : goal.returns-clause-graph
returns-clause-graph c = kept_graph (kept c)
