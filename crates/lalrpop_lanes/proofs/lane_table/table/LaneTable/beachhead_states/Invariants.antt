use Rattle.lalrpop_lanes.proofs.theory.lane_tables.LaneTableStates.{BeachSoFar}
use Rattle.lalrpop_collections.proofs.theory.lists.EachLemmas.{HoldsSoFar}
use Rattle.lalrpop_lanes.proofs.lane_table.table.LaneTable.beachhead_states.Given as goal

abbrev pub invariant-loop-state : goal.invariant-loop-state
invariant-loop-state l = HoldsSoFar (BeachSoFar l.reached.keys l.states.keys) l.state-iterator l.self.lookaheads.entries
