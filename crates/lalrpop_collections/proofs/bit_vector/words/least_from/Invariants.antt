use Rattle.std.proofs.Common.{◌≡◌, ℕ, ◌*◌, ◌<◌, ◌≤◌, false}
use Rattle.lalrpop_collections.specs.lists.BitVectors.{has_bit}
use Rattle.lalrpop_collections.proofs.bit_vector.words.least_from.Given as goal

abbrev pub invariant-loop-place : goal.invariant-loop-place
invariant-loop-place l = (n : ℕ) → l.first ≤ n → n < 64 * l.place → has_bit l.words n ≡ false
