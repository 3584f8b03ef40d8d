use Rattle.std.proofs.Common.{◌≡◌, ℕ, ◌<◌, length, slice_index, bit_and}
use Rattle.lalrpop_collections.proofs.bit_vector.word_changes.meet_words.Given as goal

abbrev pub invariant-loop-place : goal.invariant-loop-place
invariant-loop-place l = record {
  len : length l.both.items ≡ l.place;
  done : (k : ℕ) → k < l.place → slice_index l.both.items k ≡ bit_and (slice_index l.left k) (slice_index l.right k);
}
