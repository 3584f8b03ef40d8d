use Rattle.std.proofs.Common.{◌+◌, ◌<◌}
use Prim.Native.Nat.{◌^◌}
use Rattle.lalrpop_lanes.proofs.theory.lanes.Contexts.{IsNotBefore}
use Rattle.lalrpop_lanes.proofs.lane_table.context_set.place_of_reduction.Given as goal

abbrev pub invariant-loop-place : goal.invariant-loop-place
invariant-loop-place l =
    (goal.iterator-loop-place).can_next l.action-iterator ×
    (goal.iterator-loop-place).is_finite l.action-iterator ×
    l.place + (goal.iterator-loop-place).remaining l.action-iterator < 2 ^ 64 ×
    IsNotBefore l.actions.keys l.action-iterator l.place l.production
