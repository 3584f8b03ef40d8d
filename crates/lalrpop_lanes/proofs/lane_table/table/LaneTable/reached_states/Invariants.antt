use Rattle.lalrpop_lanes.proofs.theory.lane_tables.LaneTableStates.{ReachedSoFar}
use Rattle.lalrpop_collections.proofs.theory.lists.EachLemmas.{HoldsSoFar}
use Rattle.lalrpop_lanes.proofs.lane_table.table.LaneTable.reached_states.Given as goal

abbrev pub invariant-loop-state : goal.invariant-loop-state
invariant-loop-state l = HoldsSoFar (ReachedSoFar l.reached.keys) l._state-iterator l.self.successors
