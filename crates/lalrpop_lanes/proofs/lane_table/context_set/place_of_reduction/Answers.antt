use Rattle.std.proofs.Common.{refl, sym, arith, length, List, ap}
use mathlib.Core.Bool.{true≢false}
use Rattle.lalrpop_lanes.proofs.Types.{Action}
use Rattle.lalrpop_lanes.proofs.theory.lanes.Contexts.{reduction_there, not_before_more, nowhere}
use Rattle.lalrpop_lanes.proofs.lane_table.context_set.place_of_reduction.Goals as goal

pub returns-then-reduces_by : goal.returns-then-reduces_by
returns-then-reduces_by c = reduction_there _ _ _ _ _ _ c.loop-place.invariant.3 c.in-Some.ensures.steps (c.if-reduces_by.ensures.0 refl)

pub loop-place-preserved : goal.loop-place-preserved
loop-place-preserved c =
    let shorter = ap (λ (xs : List Action). length xs) c.in-Some.ensures.steps in
    (tt, tt, omega (arith, shorter, c.loop-place.invariant.2), not_before_more _ _ _ _ _ _ c.loop-place.invariant.3 c.in-Some.ensures.steps (λ r. true≢false (sym (c.if-reduces_by.ensures.1 r))))

pub unreachable-requires : goal.unreachable-requires
unreachable-requires c = nowhere _ _ _ _ c.loop-place.invariant.3 c.in-None.ensures.steps.0 c.requires.0 c.requires.1
