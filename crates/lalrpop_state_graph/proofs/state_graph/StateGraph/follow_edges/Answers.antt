use Rattle.std.proofs.Common.{◌≡◌, ap, map, subst, List}
use Rattle.lalrpop_base.specs.Words.{state_edges}
use Rattle.lalrpop_state_graph.specs.Words.{Edge, edge, edge_from}
use Rattle.lalrpop_state_graph.specs.graphs.GraphCopies.{FollowsInTurn}
use Rattle.lalrpop_state_graph.proofs.theory.graphs.GraphCopies.{following_start, following_more, following_end}
use Rattle.lalrpop_state_graph.proofs.theory.graphs.StateGraphs.{edges_listed}
use Rattle.lalrpop_state_graph.proofs.state_graph.StateGraph.follow_edges.Goals as goal

pub loop-symbol-init : goal.loop-symbol-init
loop-symbol-init g c = let same : c.into_iter-symbol-iterator.result ≡ state_edges c.args.state.now.shifts.entries c.args.state.now.gotos.entries = cc in rw same (following_start c.args.originals.now _ c.args.self.now)

pub loop-symbol-preserved : goal.loop-symbol-preserved
loop-symbol-preserved g c = following_more c.args.originals.now _ _ _ _ _ _ _ _ (ap (map (edge_from c.args.source)) c.in-Some.ensures.steps) (ap (λ x. edge c.args.source x c.in-Some.target) c.in_ok-to_symbol.ensures) c.loop-symbol.invariant c.in_ok-follow_edge.ensures

pub returns : goal.returns
returns g c =
    let done = following_end c.args.originals.now _ _ _ _ (ap (map (edge_from c.args.source)) c.in-None.ensures.steps.0) c.loop-symbol.invariant in
    subst (λ (es : List Edge). FollowsInTurn c.args.originals.now es c.args.self.now c.loop-symbol.self) (edges_listed c.args.source c.args.state.now.shifts.entries c.args.state.now.gotos.entries) done
