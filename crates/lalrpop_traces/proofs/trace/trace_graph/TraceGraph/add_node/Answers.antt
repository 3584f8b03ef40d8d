use Rattle.std.proofs.Common.{◌≡◌, List, [], ◌∷◌, ◌++◌, cond, sym, ap, ◌∙◌, subst}
use Rattle.std.specs.Prelude.{is_ok, slice_get, Some}
use Rattle.lalrpop_base.specs.Words.{AddsOnce, by_number}
use Rattle.lalrpop_collections.proofs.theory.states.KernelLemmas.{IsNext, adds_known, adds_fresh, at_number, list_grows}
use Rattle.lalrpop_collections.proofs.theory.lists.Places.{slice_get-longer}
use Rattle.lalrpop_traces.specs.Words.{Graph, IsGraph, IsKept}
use Rattle.lalrpop_traces.specs.contracts.trace.node.TraceGraphNodeOrd.TheImpl as node_ord
use Rattle.lalrpop_traces.specs.declared.trace.node.TraceGraphNode.{TraceGraphNode}
use Rattle.lalrpop_traces.proofs.theory.traces.TraceGraphs.{kept_graph}
use Rattle.lalrpop_traces.proofs.theory.traces.KeptGraphs.{kept_more, kept_same}
use Rattle.lalrpop_traces.proofs.trace.trace_graph.TraceGraph.add_node.Goals as goal

pub returns-in-Some-clause-graph : goal.returns-in-Some-clause-graph
returns-in-Some-clause-graph c = subst IsGraph c.self.view_is (kept_graph c.self.invariant)

pub returns-in-Some-clause-added : goal.returns-in-Some-clause-added
returns-in-Some-clause-added c =
    let P : Graph → Type 0 = λ g. AddsOnce g.nodes g.nodes c.args.node in
    subst P c.self.view_is (adds_known c.self.invariant.numbered c.args.node c.in-Some.index.now (sym c.in-Some.ensures.value))

pub returns-in-Some-clause-numbered : goal.returns-in-Some-clause-numbered
returns-in-Some-clause-numbered c =
    let P : Graph → Type 0 = λ g. slice_get g.nodes c.in-Some.index.now ≡ Some c.args.node in
    subst P c.self.view_is (c.self.invariant.numbered.found c.args.node c.in-Some.index.now (sym c.in-Some.ensures.value))

pub returns-in_err-reserve-clause-graph : goal.returns-in_err-reserve-clause-graph
returns-in_err-reserve-clause-graph c = kept_graph c.self.invariant

pub invariant_of-self-in_err-insert : goal.invariant_of-self-in_err-insert
invariant_of-self-in_err-insert c = kept_same c.in_err-insert.ensures.err c.in_ok-reserve.ensures.items c.self.invariant

pub returns-in_err-insert-clause-graph : goal.returns-in_err-insert-clause-graph
returns-in_err-insert-clause-graph c = kept_graph (kept_same {new = c.insert.new.self} c.in_err-insert.ensures.err c.in_ok-reserve.ensures.items c.self.invariant)

-- the node got the next number
step : (c : goal.After-unwrap) → IsNext node_ord.ghosts.cmp c.self.inside.indices c.insert.new.self c.args.node c.len-index.result
step c = record { next = c.len-index.ensures.len; absent = sym c.in_default.ensures.value; made = c.in_ok-insert.ensures.entries; updates = c.in_ok-insert.ensures.updates }

-- an empty list was added for it
listed : (c : goal.After-unwrap) → c.push.new.self.items ≡ c.self.inside.incoming.items ++ c.new.result ∷ []
listed c = c.push.ensures.items ∙ ap (λ r. cond (is_ok r) (c.reserve.new.self.items ++ c.new.result ∷ []) c.reserve.new.self.items) c.unwrap.ensures ∙ ap (λ xs. xs ++ c.new.result ∷ []) c.in_ok-reserve.ensures.items

grown : (c : goal.After-unwrap) → IsKept c.insert.new.self (by_number c.insert.new.self.entries) c.self.inside.edges.items c.self.inside.sources.items c.push.new.self.items
grown c = kept_more c.new.result c.new.ensures.items (listed c) c.self.invariant (step c)

pub invariant_of-self-2 : goal.invariant_of-self-2
invariant_of-self-2 c = grown c

pub returns-clause-graph : goal.returns-clause-graph
returns-clause-graph c = kept_graph (grown c)

pub returns-clause-added : goal.returns-clause-added
returns-clause-added c =
    let P : Graph → Type 0 = λ g. AddsOnce g.nodes (by_number c.insert.new.self.entries) c.args.node in
    subst P c.self.view_is (adds_fresh c.self.invariant.numbered (step c))

pub returns-clause-numbered : goal.returns-clause-numbered
returns-clause-numbered c = at_number c.self.invariant.numbered (step c)

pub returns-clause-stay : goal.returns-clause-stay
returns-clause-stay c = λ n x at.
    let P : List TraceGraphNode → Type 0 = λ nodes. slice_get nodes n ≡ Some x in
    subst P (sym (list_grows c.self.invariant.numbered (step c))) (slice_get-longer (by_number c.self.inside.indices.entries) (c.args.node ∷ []) n x (ap (λ (g : Graph). slice_get g.nodes n) c.self.view_is ∙ at))
