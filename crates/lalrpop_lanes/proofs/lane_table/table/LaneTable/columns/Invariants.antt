use Rattle.lalrpop_lanes.proofs.theory.lane_tables.LaneColumns.{IsGathering, AnyRow}
use Rattle.lalrpop_lanes.proofs.lane_table.table.LaneTable.columns.Given as goal

abbrev pub invariant-loop-state : goal.invariant-loop-state
invariant-loop-state l =
    (goal.iterator-loop-state).can_next l._state-iterator ×
    (goal.iterator-loop-state).is_finite l._state-iterator ×
    IsGathering AnyRow l._state-iterator l.self.lookaheads.entries l.self.conflicts l.columns
