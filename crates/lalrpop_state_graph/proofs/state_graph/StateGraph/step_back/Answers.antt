use Rattle.std.proofs.Common.{refl}
use Rattle.std.proofs.lemmas.List.{drop_more, drop_all}
use Rattle.lalrpop_state_graph.proofs.theory.graphs.Stepping.{stepping_none, stepping_more, stepping_all, step_moved}
use Rattle.lalrpop_state_graph.proofs.state_graph.StateGraph.step_back.Goals as goal

pub loop-state-init : goal.loop-state-init
loop-state-init c = stepping_none _ _ _ _ _ refl c.new-sources.ensures.items

pub loop-state-preserved : goal.loop-state-preserved
loop-state-preserved c = stepping_more c.args.self.now c.args.symbol.now _ _ c.args.states.now c.loop-state.sources.items _ _ (drop_more c.args.states.now c.loop-state.state-index _ c.loop-state-test.true) c.in_ok-push_sources.ensures c.loop-state.invariant

pub returns-clause-sources : goal.returns-clause-sources
returns-clause-sources c = step_moved c.args.self.now c.args.symbol.now c.args.states.now c.loop-state.sources.items _ c.in_order.ensures.same (stepping_all c.args.self.now c.args.symbol.now _ _ _ (drop_all _ _ c.loop-state-test.false) c.loop-state.invariant)
