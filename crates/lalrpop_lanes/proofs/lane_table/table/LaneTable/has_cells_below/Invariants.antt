use Rattle.lalrpop_lanes.proofs.theory.lane_tables.LaneTableStates.{EachSoFar, IsBelow}
use Rattle.lalrpop_collections.proofs.theory.lists.EachLemmas.{HoldsSoFar}
use Rattle.lalrpop_lanes.proofs.lane_table.table.LaneTable.has_cells_below.Given as goal

abbrev pub invariant-loop-state : goal.invariant-loop-state
invariant-loop-state l =
    (goal.iterator-loop-state).can_next l.state-iterator ×
    (goal.iterator-loop-state).is_finite l.state-iterator ×
    HoldsSoFar (EachSoFar (IsBelow l.count)) l.state-iterator l.self.lookaheads.entries
