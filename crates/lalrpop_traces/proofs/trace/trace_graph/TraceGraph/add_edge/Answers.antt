use Rattle.std.proofs.Common.{refl, sym, ap, ◌∙◌, subst}
use mathlib.Core.Bool.{true≢false}
use Rattle.lalrpop_traces.specs.Words.{Graph, IsGraph}
use Rattle.lalrpop_traces.proofs.theory.traces.TraceGraphs.{kept_graph, on_ok, adds_both, adds_edge, has_edge_already, numbered_still, no_other_first, no_other_second, no_other_same, nodes_stay}
use Rattle.lalrpop_traces.proofs.trace.trace_graph.TraceGraph.add_edge.Goals as goal

pub returns-in_err-clone-clause-graph : goal.returns-in_err-clone-clause-graph
returns-in_err-clone-clause-graph c = subst IsGraph c.self.view_is (kept_graph c.self.invariant)

pub push_edge-requires-clause-from : goal.push_edge-requires-clause-from
push_edge-requires-clause-from c = numbered_still c.add_node.new.self.nodes c.add_node-2.new.self.nodes c.in_ok-source.source.0 c.in_ok-clone.field-0 c.args.from c.in_ok-clone.ensures c.in_ok-source.ensures.numbered c.in_ok-target.ensures.stay

pub push_edge-requires-clause-to : goal.push_edge-requires-clause-to
push_edge-requires-clause-to c = numbered_still c.add_node-2.new.self.nodes c.add_node-2.new.self.nodes c.in_ok-target.target.0 c.in_ok-clone-2.field-0 c.args.to c.in_ok-clone-2.ensures c.in_ok-target.ensures.numbered (λ n x h. h)

pub push_edge-requires-clause-fresh : goal.push_edge-requires-clause-fresh
push_edge-requires-clause-fresh c = λ there. true≢false (sym ((c.if-has_edge.ensures c.args.from c.args.to
    (numbered_still c.add_node.new.self.nodes c.add_node-2.new.self.nodes c.in_ok-source.source.0 c.in_ok-clone.field-0 c.args.from c.in_ok-clone.ensures c.in_ok-source.ensures.numbered c.in_ok-target.ensures.stay)
    (numbered_still c.add_node-2.new.self.nodes c.add_node-2.new.self.nodes c.in_ok-target.target.0 c.in_ok-clone-2.field-0 c.args.to c.in_ok-clone-2.ensures c.in_ok-target.ensures.numbered (λ n x h. h))).1 there))

-- ---- which nodes were added
pub returns-in_err-clone-2-clause-no_other : goal.returns-in_err-clone-2-clause-no_other
returns-in_err-clone-2-clause-no_other c =
    no_other_first c.args.self.now.nodes c.add_node.new.self.nodes c.args.from c.args.to c.in_ok-clone.field-0 c.in_ok-clone.ensures c.in_ok-source.ensures.added

pub returns-in_err-target-clause-no_other : goal.returns-in_err-target-clause-no_other
returns-in_err-target-clause-no_other c =
    no_other_same c.args.self.now.nodes c.add_node.new.self.nodes c.add_node-2.new.self.nodes c.args.from c.args.to
    (no_other_first c.args.self.now.nodes c.add_node.new.self.nodes c.args.from c.args.to c.in_ok-clone.field-0 c.in_ok-clone.ensures c.in_ok-source.ensures.added)
    (ap (λ (g : Graph). g.nodes) c.in_err-target.ensures.err)

pub returns-then-has_edge-clause-no_other : goal.returns-then-has_edge-clause-no_other
returns-then-has_edge-clause-no_other c =
    no_other_second c.args.self.now.nodes c.add_node.new.self.nodes c.add_node-2.new.self.nodes c.args.from c.args.to c.in_ok-clone.field-0 c.in_ok-clone-2.field-0 c.in_ok-clone.ensures c.in_ok-source.ensures.added c.in_ok-clone-2.ensures c.in_ok-target.ensures.added

pub returns-clause-no_other : goal.returns-clause-no_other
returns-clause-no_other c =
    no_other_same c.args.self.now.nodes c.add_node-2.new.self.nodes c.push_edge.new.self.nodes c.args.from c.args.to
    (no_other_second c.args.self.now.nodes c.add_node.new.self.nodes c.add_node-2.new.self.nodes c.args.from c.args.to c.in_ok-clone.field-0 c.in_ok-clone-2.field-0 c.in_ok-clone.ensures c.in_ok-source.ensures.added c.in_ok-clone-2.ensures c.in_ok-target.ensures.added)
    (nodes_stay c.push_edge.result c.add_node-2.new.self c.push_edge.new.self _ c.push_edge.ensures.pushed c.push_edge.ensures.err)

-- ---- the edges
pub returns-then-has_edge-clause-added : goal.returns-then-has_edge-clause-added
returns-then-has_edge-clause-added c = has_edge_already c.args.self.now.edges c.add_node-2.new.self.edges _ (c.in_ok-target.ensures.edges ∙ c.in_ok-source.ensures.edges) ((c.if-has_edge.ensures c.args.from c.args.to
    (numbered_still c.add_node.new.self.nodes c.add_node-2.new.self.nodes c.in_ok-source.source.0 c.in_ok-clone.field-0 c.args.from c.in_ok-clone.ensures c.in_ok-source.ensures.numbered c.in_ok-target.ensures.stay)
    (numbered_still c.add_node-2.new.self.nodes c.add_node-2.new.self.nodes c.in_ok-target.target.0 c.in_ok-clone-2.field-0 c.args.to c.in_ok-clone-2.ensures c.in_ok-target.ensures.numbered (λ n x h. h))).0 refl)

pub returns-clause-nodes : goal.returns-clause-nodes
returns-clause-nodes c = on_ok c.push_edge.result c.push_edge.ensures.pushed (λ is.
    adds_both c.args.self.now.nodes c.add_node.new.self.nodes c.add_node-2.new.self.nodes c.push_edge.new.self.nodes c.args.from c.args.to c.in_ok-clone.field-0 c.in_ok-clone-2.field-0 c.in_ok-clone.ensures c.in_ok-clone-2.ensures
    (ap (λ (g : Graph). g.nodes) is) c.in_ok-source.ensures.added c.in_ok-target.ensures.added)

pub returns-clause-added : goal.returns-clause-added
returns-clause-added c = on_ok c.push_edge.result c.push_edge.ensures.pushed (λ is.
    adds_edge c.args.self.now.edges c.add_node-2.new.self.edges c.push_edge.new.self.edges _ (c.in_ok-target.ensures.edges ∙ c.in_ok-source.ensures.edges) (ap (λ (g : Graph). g.edges) is)
    (λ there. true≢false (sym ((c.if-has_edge.ensures c.args.from c.args.to
    (numbered_still c.add_node.new.self.nodes c.add_node-2.new.self.nodes c.in_ok-source.source.0 c.in_ok-clone.field-0 c.args.from c.in_ok-clone.ensures c.in_ok-source.ensures.numbered c.in_ok-target.ensures.stay)
    (numbered_still c.add_node-2.new.self.nodes c.add_node-2.new.self.nodes c.in_ok-target.target.0 c.in_ok-clone-2.field-0 c.args.to c.in_ok-clone-2.ensures c.in_ok-target.ensures.numbered (λ n x h. h))).1 there))))
