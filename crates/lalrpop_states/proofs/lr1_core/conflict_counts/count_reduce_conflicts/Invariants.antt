use Rattle.std.proofs.Common.{◌≡◌, ◌+◌, ◌<◌, ◌^◌, drop}
use Rattle.lalrpop_states.specs.Words.{reduce_conflict_count}
use Rattle.lalrpop_states.proofs.lr1_core.conflict_counts.count_reduce_conflicts.Given as goal

abbrev pub invariant-loop-place : goal.invariant-loop-place
invariant-loop-place l = record {
  within : l.count < 2 ^ 64;
  left : l.count + reduce_conflict_count (drop l.place l.reductions) ≡ reduce_conflict_count l.reductions;
}
