use Rattle.std.proofs.Common.{◌↔◌, ◌++◌, ℕ, List, [], ap, map, subst}
use Rattle.std.specs.Prelude.{IsTrue}
use Rattle.std.specs.List.{flat_map}
use Rattle.lalrpop_states.specs.conflicts.StateConflicts.{StateReduction}
use Rattle.lalrpop_base.specs.Words.{has}
use Rattle.lalrpop_states.specs.declared.lr1_core.state.Action.{Action as TheAction}
use Rattle.lalrpop_states.specs.conflicts.HeldShifts.{held_shift, IsHeldBit}
use Rattle.lalrpop_lane_states.specs.Words.{reduce_action}
use Rattle.lalrpop_lane_states.proofs.theory.lanes.HeldShifts.{gathered_asked}
use Rattle.lalrpop_lane_states.proofs.theory.lanes.LaneActions.{asked_same, no_actions}
use Rattle.lalrpop_lane_states.proofs.lane_table.construct.actions.actions_of.Goals as goal

pub returns-clause-actions : goal.returns-clause-actions
returns-clause-actions c =
    let terminals = c.args.terminals.now in
    let state = c.args.state.now in
    let held = c.in_ok-held.held in
    let shifts : List TheAction = flat_map (held_shift terminals held) state.shifts.entries in
    let tokens = subst (λ (rs : List StateReduction). (bit : ℕ) → IsTrue (has held bit) ↔ IsHeldBit rs bit) c.deref.ensures.value c.in_ok-held.ensures in
    let all = c.in_ok-add_reductions.ensures shifts (c.in_ok-add_shifts.ensures [] (no_actions _ c.new-actions.ensures.empty)) in
    gathered_asked terminals state held tokens _ (asked_same _ _ _ (ap (λ (rs : List StateReduction). shifts ++ map reduce_action rs) c.deref-2.ensures.value) all)
