use Rattle.lalrpop_lanes.proofs.theory.lane_tables.LaneRows.{AreAdding}
use Rattle.lalrpop_lanes.proofs.lane_table.table.LaneTable.add_rows.Given as goal

abbrev pub invariant-loop-state : goal.invariant-loop-state
invariant-loop-state l = AreAdding l.self.conflicts l.state-iterator l.self.successors l.initial.rows.entries l.rows.entries
