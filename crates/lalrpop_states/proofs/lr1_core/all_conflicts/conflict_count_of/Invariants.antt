use Rattle.std.proofs.Common.{◌≡◌, ◌+◌, ◌<◌, ◌^◌, drop, length}
use Rattle.std.specs.List.{flat_map}
use Rattle.lalrpop_states.specs.Words.{state_conflicts}
use Rattle.lalrpop_states.proofs.lr1_core.all_conflicts.conflict_count_of.Given as goal

abbrev pub invariant-loop-state : goal.invariant-loop-state
invariant-loop-state l = record {
  within : l.count < 2 ^ 64;
  left : l.count + length (flat_map (state_conflicts l.terminals) (drop l.state-index l.states)) ≡ length (flat_map (state_conflicts l.terminals) l.states);
}
