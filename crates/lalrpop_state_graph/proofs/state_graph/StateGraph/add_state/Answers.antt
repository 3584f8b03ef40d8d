use Rattle.std.proofs.Common.{◌≡◌, ap, map, subst, List}
use Rattle.lalrpop_base.specs.Words.{state_edges}
use Rattle.lalrpop_state_graph.specs.Words.{Edge, edge, edge_from, IsGrown}
use Rattle.lalrpop_state_graph.proofs.theory.graphs.StateGraphs.{adding_start, adding_more, adding_end, edges_listed}
use Rattle.lalrpop_state_graph.proofs.state_graph.StateGraph.add_state.Goals as goal

pub loop-symbol-init : goal.loop-symbol-init
loop-symbol-init g c = let same : c.into_iter-symbol-iterator.result ≡ state_edges c.args.state.now.shifts.entries c.args.state.now.gotos.entries = cc in rw same (adding_start _ c.args.self.now)

pub loop-symbol-preserved : goal.loop-symbol-preserved
loop-symbol-preserved g c = adding_more _ _ _ _ _ _ _ _ (ap (map (edge_from c.args.source)) c.in-Some.ensures.steps) (ap (λ x. edge c.args.source x c.in-Some.target) c.in_ok-to_symbol.ensures) c.loop-symbol.invariant c.in_ok-add_edge.ensures

pub returns : goal.returns
returns g c =
    let done = adding_end _ _ _ _ (ap (map (edge_from c.args.source)) c.in-None.ensures.steps.0) c.loop-symbol.invariant in
    subst (λ (es : List Edge). IsGrown es c.args.self.now c.loop-symbol.self) (edges_listed c.args.source c.args.state.now.shifts.entries c.args.state.now.gotos.entries) done
