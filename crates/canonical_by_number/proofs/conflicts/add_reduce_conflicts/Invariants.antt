use Rattle.std.proofs.Common.{◌≡◌, ◌+◌, ℕ, drop}
use Rattle.lalrpop_construction.specs.canonical.CanonicalAnswers.{up_to_greatest}
use Rattle.canonical_by_number.specs.Conflicts.{reduce_conflicts_of}
use Rattle.canonical_by_number.proofs.conflicts.add_reduce_conflicts.Given as goal

-- the count has those of the finished items so far
abbrev pub invariant-loop-place : goal.invariant-loop-place
invariant-loop-place l = (n : ℕ) → l.old ≡ up_to_greatest n → (m : ℕ) × (l.count ≡ up_to_greatest (n + m)) × (m + reduce_conflicts_of l.numbers l.sets (drop l.place l.finished) ≡ reduce_conflicts_of l.numbers l.sets l.finished)
