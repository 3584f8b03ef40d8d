use Rattle.std.proofs.Common.{◌≡◌, refl}
use Rattle.lalrpop_lanes.proofs.theory.lane_tables.LaneRows.{taken_start, taken_in, taken_more, taken_counted, taken_overlaps, none_smaller}
use Rattle.lalrpop_lanes.proofs.theory.lane_tables.LaneTables.{in_range_of}
use Rattle.lalrpop_lanes.proofs.lane_table.table.LaneTable.rows_of_cells.Goals as goal

pub loop-state-init : goal.loop-state-init
loop-state-init c =
    let same : c.into_iter-state-iterator.result ≡ c.args.self.now.lookaheads.entries = cc in
    (tt, tt, rw (same, c.new-rows.ensures.empty) (taken_start c.args.self.now.conflicts c.args.self.now.lookaheads.entries))

pub join_to_row-requires-clause-within : goal.join_to_row-requires-clause-within
join_to_row-requires-clause-within c =
    let cell = c.in-Some.field-0-0.now in
    in_range_of c.args.self.now cell.0 cell.1.index (c.in-Some.tokens.now, taken_in _ _ _ _ _ c.loop-state.invariant.2 cell.0 cell.1 c.in-Some.tokens.now c.in-Some.ensures.steps)

pub join_to_row-requires-clause-counted : goal.join_to_row-requires-clause-counted
join_to_row-requires-clause-counted c = taken_counted _ _ _ _ c.loop-state.invariant.2 c.in-Some.field-0-0.now.0

pub loop-state-preserved : goal.loop-state-preserved
loop-state-preserved c =
    let cell = c.in-Some.field-0-0.now in
    let at = in_range_of c.args.self.now cell.0 cell.1.index (c.in-Some.tokens.now, taken_in _ _ _ _ _ c.loop-state.invariant.2 cell.0 cell.1 c.in-Some.tokens.now c.in-Some.ensures.steps) in
    (tt, tt, taken_more _ _ _ _ _ c.loop-state.invariant.2 cell.0 cell.1 c.in-Some.tokens.now c.in-Some.ensures.steps _ at c.in-Ok.ensures.joined)

pub returns-in-Err-Overlapping-clause-first : goal.returns-in-Err-Overlapping-clause-first
returns-in-Err-Overlapping-clause-first c =
    let cell = c.in-Some.field-0-0.now in (
      taken_overlaps _ _ _ _ _ c.loop-state.invariant.2 cell.0 cell.1 c.in-Some.tokens.now c.in-Some.ensures.steps c.args.self.now refl (c.in-Err-Overlapping.ensures.overlapping c.in-Err-Overlapping.field-0-is),
      none_smaller _ _ _ _ _ c.loop-state.invariant.2 cell.0 cell.1 c.in-Some.tokens.now c.in-Some.ensures.steps c.iter-state-items.ensures.ordered c.args.self.now refl,
    )
