use Rattle.lalrpop_lanes.proofs.theory.lane_tables.LaneRows.{AreTaken}
use Rattle.lalrpop_lanes.proofs.lane_table.table.LaneTable.rows_of_cells.Given as goal

abbrev pub invariant-loop-state : goal.invariant-loop-state
invariant-loop-state l =
    (goal.iterator-loop-state).can_next l.state-iterator ×
    (goal.iterator-loop-state).is_finite l.state-iterator ×
    AreTaken l.self.conflicts l.state-iterator l.self.lookaheads.entries l.rows.entries
