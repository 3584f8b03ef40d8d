use Rattle.lalrpop_lanes.proofs.theory.lane_tables.LaneTableStates.{AddedSoFar, added_more}
use Rattle.lalrpop_collections.proofs.theory.lists.EachLemmas.{far_more, far_end}
use Rattle.lalrpop_lanes.proofs.lane_table.table.beachheads.add_states.Goals as goal

pub loop-state-preserved : goal.loop-state-preserved
loop-state-preserved c =
    let old = c.args.set.now.keys in
    far_more (AddedSoFar old c.loop-state.set.keys) (AddedSoFar old c.insert.new.self.keys) _ _ _ c.in-Some.state.now c.loop-state.invariant c.in-Some.ensures.steps
    (added_more old c.loop-state.set.keys c.insert.new.self.keys c.in-Some.state.now c.in_ok-insert.ensures.keys)

pub returns : goal.returns
returns c = far_end (AddedSoFar c.args.set.now.keys c.loop-state.set.keys) _ _ c.in-None.ensures.steps.0 c.loop-state.invariant
