use Rattle.std.proofs.Common.{◌≡◌, take}
use Rattle.std.specs.List.{flat_map}
use Rattle.lalrpop_states.specs.Words.{state_conflicts}
use Rattle.lalrpop_states.proofs.lr1_core.all_conflicts.conflicts_of.Given as goal

abbrev pub invariant-loop-state : goal.invariant-loop-state
invariant-loop-state l = l.conflicts.items ≡ flat_map (state_conflicts l.terminals) (take l.state-index l.states)
