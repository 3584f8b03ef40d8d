use Rattle.std.proofs.Common.{◌∙◌, length, sym, subst}
use Rattle.lalrpop_lanes.specs.Words.{AreInRange, HasRow, IsClosed}
use Rattle.lalrpop_lanes.specs.declared.lane_table.table.LaneTable.{LaneTable}
use Rattle.lalrpop_lane_states.proofs.theory.lanes.LaneTracing.{tracing_start, tracing_within, tracing_more, tracing_end, tracing_row}
use Rattle.lalrpop_lane_states.proofs.lane_table.construct.LaneTableConstruct.build_lane_table.Goals as goal

pub loop-action-init : goal.loop-action-init
loop-action-init c =
    let n = c.new-tracer.ensures in
    tracing_start _ _ c.args.inconsistent_state _ _ _ c.in_ok-start.start n.ready n.over c.in_ok-start.ensures n.empty (n.columns ∙ c.len-count.ensures.len) (c.into_iter-action-iterator.ensures.into_iter_gives ∙ c.iter-action-items.ensures.rest)

pub loop-action-preserved : goal.loop-action-preserved
loop-action-preserved c =
    let t = c.start_trace.ensures in
    tracing_more _ _ c.args.inconsistent_state _ _ _ _ _ _ _ c.in-Some.action.now c.in_ok-clone.field-0 c.requires.listed c.loop-action.invariant c.in-Some.ensures.steps c.in_ok-clone.ensures.copy c.new-conflict.ensures.number t.ready t.over c.in_ok-start_trace.ensures.traced

pub start_trace-requires-clause-there : goal.start_trace-requires-clause-there
start_trace-requires-clause-there c = rw c.new-conflict.ensures.number (tracing_within _ _ c.args.inconsistent_state _ _ _ _ _ c.in-Some.action.now c.loop-action.invariant c.in-Some.ensures.steps)

pub returns-clause-traced : goal.returns-clause-traced
returns-clause-traced c = rw c.into_table.ensures.table (tracing_end _ _ c.args.inconsistent_state _ _ _ _ c.loop-action.invariant c.in-None.ensures.steps.0)

pub returns-clause-in_range : goal.returns-clause-in_range
returns-clause-in_range c = subst AreInRange (sym c.into_table.ensures.table) c.loop-action.invariant.ready.in_range

pub returns-clause-closed : goal.returns-clause-closed
returns-clause-closed c = subst (IsClosed (length c.args.states.now)) (sym c.into_table.ensures.table) c.loop-action.invariant.closed

pub returns-clause-row : goal.returns-clause-row
returns-clause-row c = λ some. subst (λ (table : LaneTable). HasRow table c.args.inconsistent_state) (sym c.into_table.ensures.table) (tracing_row _ _ c.args.inconsistent_state _ _ _ _ c.loop-action.invariant c.in-None.ensures.steps.0 some)
