use Rattle.std.proofs.Common.{refl, ap, ◌∙◌}
use Rattle.lalrpop_state_graph.specs.Words.{sources_left}
use Rattle.lalrpop_state_graph.proofs.theory.graphs.Stepping.{adding_states, one_more_state, all_added}
use Rattle.lalrpop_state_graph.proofs.state_graph.StateGraph.push_sources.Goals as goal

pub loop-source-init : goal.loop-source-init
loop-source-init c = adding_states _ _ _ refl

pub loop-source-preserved : goal.loop-source-preserved
loop-source-preserved c = one_more_state _ _ _ _ _ _ _ c.in-Some.ensures.steps c.in_ok-push.ensures.items c.loop-source.invariant

pub returns : goal.returns
returns c = all_added _ _ _ _ _ c.in-None.ensures.steps.0 (ap sources_left c.into_iter-source-iterator.ensures.into_iter_gives ∙ c.predecessors-source-items.ensures.sources) c.loop-source.invariant
