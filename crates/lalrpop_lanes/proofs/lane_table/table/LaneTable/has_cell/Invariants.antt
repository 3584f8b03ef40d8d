use Rattle.lalrpop_lanes.proofs.theory.lane_tables.LaneTableStates.{EachSoFar, IsOther}
use Rattle.lalrpop_collections.proofs.theory.lists.EachLemmas.{HoldsSoFar}
use Rattle.lalrpop_lanes.proofs.lane_table.table.LaneTable.has_cell.Given as goal

abbrev pub invariant-loop-row : goal.invariant-loop-row
invariant-loop-row l =
    (goal.iterator-loop-row).can_next l.row-iterator ×
    (goal.iterator-loop-row).is_finite l.row-iterator ×
    HoldsSoFar (EachSoFar (IsOther l.state)) l.row-iterator l.self.lookaheads.entries
