use Rattle.std.proofs.Common.{◌≡◌, ℕ, ◌<◌, slice_index, bit_and, w64}
use Rattle.std.specs.Int.{bit_not}
use Rattle.lalrpop_collections.proofs.bit_vector.words.are_within.Given as goal

abbrev pub invariant-loop-place : goal.invariant-loop-place
invariant-loop-place l = (k : ℕ) → k < l.place → bit_and (slice_index l.left k) (bit_not w64 (slice_index l.right k)) ≡ 0
