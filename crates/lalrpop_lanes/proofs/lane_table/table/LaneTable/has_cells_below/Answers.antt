use Rattle.std.proofs.Common.{refl, arith}
use Rattle.lalrpop_lanes.proofs.theory.lane_tables.LaneTableStates.{EachSoFar, IsBelow, each_more, below_all, below_one}
use Rattle.lalrpop_collections.proofs.theory.lists.EachLemmas.{far_in, far_more, far_end}
use Rattle.lalrpop_lanes.proofs.lane_table.table.LaneTable.has_cells_below.Goals as goal

pub returns-then-state-count : goal.returns-then-state-count
returns-then-state-count c =
    let cell = c.in-Some.field-0-0.now in
    let at = far_in (EachSoFar (IsBelow c.args.count)) _ _ _ (cell, c.in-Some._tokens.now) c.loop-state.invariant.2 c.in-Some.ensures.steps in
    (λ e. cc, λ h. absurd (omega (arith, below_one c.args.count c.args.self.now cell c.in-Some._tokens.now at h, c.if-state-count.true)))

pub loop-state-preserved : goal.loop-state-preserved
loop-state-preserved c =
    let cell = c.in-Some.field-0-0.now in
    let P = IsBelow c.args.count in (
      tt,
      tt,
      far_more (EachSoFar P) (EachSoFar P) _ _ _ (cell, c.in-Some._tokens.now) c.loop-state.invariant.2 c.in-Some.ensures.steps
          (each_more P (cell, c.in-Some._tokens.now) c.if-state-count.false),
    )

pub returns : goal.returns
returns c = (λ _. below_all c.args.count c.args.self.now (far_end (EachSoFar (IsBelow c.args.count)) _ _ c.in-None.ensures.steps.0 c.loop-state.invariant.2), λ _. refl)
