use Rattle.std.proofs.Common.{◌≡◌, ℕ, ◌<◌, slice_index, bit_and}
use Rattle.lalrpop_collections.proofs.bit_vector.words.share_number.Given as goal

abbrev pub invariant-loop-place : goal.invariant-loop-place
invariant-loop-place l = (k : ℕ) → k < l.place → bit_and (slice_index l.left k) (slice_index l.right k) ≡ 0
