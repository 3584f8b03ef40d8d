use Rattle.std.proofs.Common.{refl}
use Rattle.lalrpop_lanes.proofs.theory.lane_tables.LaneTableStates.{row_by_next, row_by_none}
use Rattle.lalrpop_lanes.proofs.lane_table.table.LaneTable.has_row.Goals as goal

pub returns-in-Some : goal.returns-in-Some
returns-in-Some c = row_by_next c.args.self.now c.args.state c.in-Some.successors.now c.is_empty.result c.has_cell.result c.has_cell.ensures c.if-has_cell.false c.in-Some.ensures.exactly c.is_empty.ensures

pub returns-in-None : goal.returns-in-None
returns-in-None c = row_by_none c.args.self.now c.args.state c.has_cell.result c.has_cell.ensures c.if-has_cell.false (c.in-None.ensures.none refl)
