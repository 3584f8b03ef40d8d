use Rattle.std.proofs.Common.{◌≡◌, ◌+◌, ◌<◌, ◌^◌}
use Rattle.lalrpop_states.specs.Words.{shift_conflict_count}
use Rattle.lalrpop_states.proofs.lr1_core.conflict_counts.count_shift_conflicts.Given as goal

abbrev pub invariant-loop-terminal : goal.invariant-loop-terminal
invariant-loop-terminal l = record {
  within : l.count < 2 ^ 64;
  left : l.count + shift_conflict_count l.terminals l.reductions l.terminal-iterator ≡ shift_conflict_count l.terminals l.reductions l.shifts.entries;
}
