use Rattle.std.proofs.Common.{◌≡◌, ◌++◌, List}
use Rattle.std.specs.List.{flat_map}
use Rattle.lalrpop_states.specs.declared.lr1_core.state.Action.{Action as TheAction}
use Rattle.lalrpop_states.specs.conflicts.HeldShifts.{held_shift}
use Rattle.lalrpop_lane_states.specs.Words.{AreActions}
use Rattle.lalrpop_lane_states.proofs.lane_table.construct.actions.add_shifts.Given as goal

abbrev pub invariant-loop-terminal : goal.invariant-loop-terminal
invariant-loop-terminal l =
    (asked : List TheAction) → AreActions asked l.fn.actions.keys →
    (done : List TheAction) × AreActions done l.actions.keys × (done ++ flat_map (held_shift l.terminals l.held) l.terminal-iterator ≡ asked ++ flat_map (held_shift l.terminals l.held) l.shifts.entries)
