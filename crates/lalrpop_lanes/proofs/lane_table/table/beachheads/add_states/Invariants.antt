use Rattle.lalrpop_lanes.proofs.theory.lane_tables.LaneTableStates.{AddedSoFar}
use Rattle.lalrpop_collections.proofs.theory.lists.EachLemmas.{HoldsSoFar}
use Rattle.lalrpop_lanes.proofs.lane_table.table.beachheads.add_states.Given as goal

abbrev pub invariant-loop-state : goal.invariant-loop-state
invariant-loop-state l = HoldsSoFar (AddedSoFar l.initial.set.keys l.set.keys) l.state-iterator l.states.keys
