use Rattle.std.proofs.Common.{refl, sym, ◌∙◌}
use mathlib.Core.Bool.{true≢false}
use Rattle.lalrpop_lanes.proofs.Types.{Action}
use Rattle.lalrpop_lanes.specs.Words.{Reduces}
use Rattle.lalrpop_lanes.proofs.theory.lanes.Contexts.{reduces_there, reduces_nowhere}
use Rattle.lalrpop_lanes.proofs.theory.lane_tables.LaneTableStates.{EachSoFar, each_more}
use Rattle.lalrpop_collections.proofs.theory.lists.EachLemmas.{far_in, far_more, far_end}
use Rattle.lalrpop_lanes.proofs.lane_table.context_set.has_reduction.Goals as goal

pub loop-action-preserved : goal.loop-action-preserved
loop-action-preserved c =
    let P = λ (a : Action). ¬ Reduces a c.args.production.now in (
      tt,
      tt,
      far_more (EachSoFar P) (EachSoFar P) _ _ _ c.in-Some.action.now c.loop-action.invariant.2 c.in-Some.ensures.steps
          (each_more P c.in-Some.action.now (λ r. true≢false (sym (c.reduces_by.ensures.1 r) ∙ c.if-reduces_by.false))),
    )

pub returns-then-reduces_by : goal.returns-then-reduces_by
returns-then-reduces_by c =
    let P = λ (a : Action). ¬ Reduces a c.args.production.now in
    let at = far_in (EachSoFar P) _ _ _ c.in-Some.action.now c.loop-action.invariant.2 c.in-Some.ensures.steps in
    (λ _. reduces_there c.args.actions.now.keys c.in-Some.action.now c.args.production.now at (c.reduces_by.ensures.0 c.if-reduces_by.true), λ _. refl)

pub returns : goal.returns
returns c =
    let P = λ (a : Action). ¬ Reduces a c.args.production.now in (
      λ e. absurd (true≢false (sym e)),
      λ h. absurd (reduces_nowhere c.args.actions.now.keys c.args.production.now (far_end (EachSoFar P) _ _ c.in-None.ensures.steps.0 c.loop-action.invariant.2) h),
    )
