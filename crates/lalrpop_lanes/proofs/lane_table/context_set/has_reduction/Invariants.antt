use Rattle.lalrpop_lanes.specs.Words.{Reduces}
use Rattle.lalrpop_lanes.proofs.Types.{Action}
use Rattle.lalrpop_lanes.proofs.theory.lane_tables.LaneTableStates.{EachSoFar}
use Rattle.lalrpop_collections.proofs.theory.lists.EachLemmas.{HoldsSoFar}
use Rattle.lalrpop_lanes.proofs.lane_table.context_set.has_reduction.Given as goal

abbrev pub invariant-loop-action : goal.invariant-loop-action
invariant-loop-action l =
    (goal.iterator-loop-action).can_next l.action-iterator ×
    (goal.iterator-loop-action).is_finite l.action-iterator ×
    HoldsSoFar (EachSoFar (λ (a : Action). ¬ Reduces a l.production)) l.action-iterator l.actions.keys
