use Rattle.std.proofs.Common.{refl}
use Rattle.lalrpop_lanes.proofs.theory.lane_tables.LaneTableStates.{closed_table, closed_edges}
use Rattle.lalrpop_lanes.proofs.lane_table.table.LaneTable.is_closed.Goals as goal

pub returns-then-has_cells_below : goal.returns-then-has_cells_below
returns-then-has_cells_below c = (
  λ e. closed_table c.args.count c.args.self.now (c.if-has_cells_below.ensures.0 refl) (c.has_closed_edges.ensures.0 e),
  λ h. c.has_closed_edges.ensures.1 (closed_edges c.args.count c.args.self.now h),
)
