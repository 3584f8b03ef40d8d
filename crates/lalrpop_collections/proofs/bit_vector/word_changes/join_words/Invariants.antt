use Rattle.std.proofs.Common.{◌≡◌, ◌≢◌, ℕ, ◌<◌, ◌≤◌, length, slice_index, bit_or, MatchBool}
use Rattle.lalrpop_collections.proofs.bit_vector.word_changes.join_words.Given as goal

abbrev pub invariant-loop-place : goal.invariant-loop-place
invariant-loop-place l = record {
  len : length l.words ≡ length l.fn.words;
  done : (k : ℕ) → k < l.place → slice_index l.words k ≡ bit_or (slice_index l.fn.words k) (slice_index l.other k);
  rest : (k : ℕ) → l.place ≤ k → slice_index l.words k ≡ slice_index l.fn.words k;
  told : MatchBool l.changed ((k : ℕ) × (slice_index l.words k ≢ slice_index l.fn.words k)) ((k : ℕ) → slice_index l.words k ≡ slice_index l.fn.words k);
}
