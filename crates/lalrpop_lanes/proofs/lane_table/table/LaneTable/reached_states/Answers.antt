use Rattle.lalrpop_lanes.proofs.theory.lane_tables.LaneTableStates.{ReachedSoFar, reached_more}
use Rattle.lalrpop_collections.proofs.theory.lists.EachLemmas.{far_more, far_end}
use Rattle.lalrpop_lanes.proofs.lane_table.table.LaneTable.reached_states.Goals as goal

pub loop-state-preserved : goal.loop-state-preserved
loop-state-preserved c =
    far_more (ReachedSoFar c.loop-state.reached.keys) (ReachedSoFar c.add_states.new.set.keys) _ _ _ (c.in-Some._state.now, c.in-Some.successors.now) c.loop-state.invariant c.in-Some.ensures.steps
    (reached_more c.loop-state.reached.keys c.add_states.new.set.keys c.in-Some._state.now c.in-Some.successors.now c.in_ok-add_states.ensures)

pub returns : goal.returns
returns c = far_end (ReachedSoFar c.loop-state.reached.keys) _ _ c.in-None.ensures.steps.0 c.loop-state.invariant
