use Rattle.lalrpop_lanes.proofs.theory.lane_tables.LaneColumns.{IsGathering}
use Rattle.lalrpop_lanes.specs.Words.{ThisRow}
use Rattle.lalrpop_lanes.proofs.lane_table.table.LaneTable.context_set.Given as goal

abbrev pub invariant-loop-row : goal.invariant-loop-row
invariant-loop-row l =
    (goal.iterator-loop-row).can_next l.row-iterator ×
    (goal.iterator-loop-row).is_finite l.row-iterator ×
    IsGathering (ThisRow l.state) l.row-iterator l.self.lookaheads.entries l.self.conflicts l.columns
