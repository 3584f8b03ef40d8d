use Rattle.std.proofs.Common.{refl, sym}
use Rattle.std.proofs.lemmas.List.{nil_from_length}
use mathlib.Core.Bool.{true≢false}
use Rattle.lalrpop_lanes.proofs.theory.lane_tables.LaneRows.{adding_past, adding_more, some_keys}
use Rattle.lalrpop_lanes.proofs.lane_table.table.LaneTable.add_rows.Goals as goal

pub loop-state-preserved-in-Continue-1 : goal.loop-state-preserved-in-Continue-1
loop-state-preserved-in-Continue-1 c =
    adding_more _ _ _ _ _ _ c.loop-state.invariant c.in-Some.state.now c.in-Some.successors.now c.in-Some.ensures.steps _
    (some_keys c.in-Some.successors.now.keys (λ e. true≢false (sym (c.if-not-is_empty.ensures.1 e)))) c.in_ok-make_row.ensures

pub loop-state-preserved : goal.loop-state-preserved
loop-state-preserved c =
    adding_past _ _ _ _ _ _ c.loop-state.invariant c.in-Some.state.now c.in-Some.successors.now c.in-Some.ensures.steps
    (nil_from_length c.in-Some.successors.now.keys (c.if-not-is_empty.ensures.0 refl))
