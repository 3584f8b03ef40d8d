use Rattle.lalrpop_lanes.proofs.theory.lane_tables.LaneRows.{row_is, has_row}
use Rattle.lalrpop_lanes.proofs.lane_table.table.LaneTable.rows.Goals as goal

pub returns-clause-states : goal.returns-clause-states
returns-clause-states c = has_row c.args.self.now c.in_ok-rows.rows.entries _ c.in_ok-rows.ensures.rows c.in_ok-add_rows.ensures

pub returns-clause-each : goal.returns-clause-each
returns-clause-each c = λ state row. row_is c.args.self.now c.in_ok-rows.rows.entries _ c.in_ok-rows.ensures.rows c.in_ok-add_rows.ensures state row c.len-count.ensures.ordered
