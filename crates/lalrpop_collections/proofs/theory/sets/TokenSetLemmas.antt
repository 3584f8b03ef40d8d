-- The bit vectors of token sets, after joins, meets and changes.
use Rattle.std.proofs.Common.{◌≡◌, ◌≢◌, ℕ, ◌+◌, ◌/◌, ◌^◌, ◌<◌, ⊎_elim, ◌==◌, Bool, true, false, ◌||◌, ◌&&◌, not, List, [], length, slice_index, refl, sym, ◌∙◌, ap, subst, arith, bit_and, bit_or, max, MatchBool}
use Rattle.std.proofs.lemmas.Nat.{le_or_l, le_or_r, or_lt}
use Rattle.std.proofs.lemmas.Bool.{cases_Bool, cases_eq, true≢false, false_from_ne_true}
use Rattle.std.proofs.lemmas.Cmp.{nat_list_eq_equiv}
use lib.Pointwise.{pointwise}
use Rattle.lalrpop_collections.specs.lists.Exact.{text_exact}
use Rattle.lalrpop_collections.specs.lists.Bits.{bits_exact}
use Rattle.lalrpop_collections.specs.Words.{Bits, has, rising, no_bits, with_bit, join, has-with_bit, same_bits}
use Rattle.lalrpop_collections.specs.lists.BitVectors.{has_bit, members_from, bits_of_words, IsBitVector, AreWords}
use Rattle.lalrpop_collections.proofs.theory.sets.BitVectorLemmas.{has-bits_of_words, rising-bits_of_words, has_bit-same, has_bit-and, joined_sets, same_sets, same_vectors, other_sets}

-- the bit vector without words is the empty set
pub no_words : bits_of_words [] ≡ no_bits
unfolding bits_of_words members_from
no_words = refl

pub no_words_vector : IsBitVector []
no_words_vector = record { trimmed = λ k e. absurd (omega arith); each = λ k. omega arith; few = omega arith }

-- ---- a set with one more number
module _ (xs ps zs : List ℕ) (x : Bits) (bit : ℕ) (view : bits_of_words xs ≡ x) (same : (k : ℕ) → slice_index ps k ≡ slice_index xs k) (put : (q : ℕ) → has_bit zs q ≡ ((q == bit) || has_bit ps q)) where
  pub inserted_set : bits_of_words zs ≡ with_bit x bit
  inserted_set = same_bits _ _ (λ q.
      has-bits_of_words zs q ∙ put q
      ∙ ap (λ b. (q == bit) || b) (has_bit-same ps xs same q ∙ sym (has-bits_of_words xs q) ∙ ap (λ (s : Bits). has s q) view)
      ∙ sym (has-with_bit x bit q))

module _ (xs ps zs : List ℕ) (bit : ℕ) (is : IsBitVector xs) (low : bit < 2 ^ 63) (padded : length ps ≡ max (length xs) (bit / 64 + 1)) (same : (k : ℕ) → slice_index ps k ≡ slice_index xs k) where
  pub inserted_vector : length zs ≡ length ps → slice_index zs (bit / 64) ≢ 0 → slice_index zs (bit / 64) < 2 ^ 64 → ((k : ℕ) → k ≢ bit / 64 → slice_index zs k ≡ slice_index ps k) → IsBitVector zs
  inserted_vector len some small others = record {
    trimmed = λ k e. ⊎_elim
        (λ at. ap_some k at)
        (λ other none. is.trimmed k (omega (arith, other)) (sym (others k other ∙ same k) ∙ none))
        (cases_eq k (bit / 64));
    each = λ k. ⊎_elim
        (λ at. subst (λ (m : ℕ). slice_index zs m < 2 ^ 64) (sym at) small)
        (λ other. subst (λ (w : ℕ). w < 2 ^ 64) (sym (others k other ∙ same k)) (is.each k))
        (cases_eq k (bit / 64));
    few = omega (arith, is.few);
  }
    where
      ap_some : (k : ℕ) → k ≡ bit / 64 → slice_index zs k ≢ 0
      ap_some k at none = some (ap (slice_index zs) (sym at) ∙ none)

-- ---- a set without a number
pub taken_set : (xs ys zs : List ℕ) (x : Bits) (bit : ℕ) → bits_of_words xs ≡ x → ((q : ℕ) → has_bit ys q ≡ (has_bit xs q && not (q == bit))) → ((k : ℕ) → slice_index zs k ≡ slice_index ys k) →
    (q : ℕ) → has (bits_of_words zs) q ≡ (has x q && not (q == bit))
taken_set xs ys zs x bit view taken same q =
    has-bits_of_words zs q ∙ has_bit-same zs ys same q ∙ taken q ∙ ap (λ b. b && not (q == bit)) (sym (has-bits_of_words xs q) ∙ ap (λ (s : Bits). has s q) view)

-- ---- a join
module _ (xs ys ps zs : List ℕ) (same : (k : ℕ) → slice_index ps k ≡ slice_index xs k) (joined : (k : ℕ) → slice_index zs k ≡ bit_or (slice_index ps k) (slice_index ys k)) where
  or_at : (k : ℕ) → slice_index zs k ≡ bit_or (slice_index xs k) (slice_index ys k)
  or_at k = joined k ∙ ap (λ (w : ℕ). bit_or w (slice_index ys k)) (same k)

  pub union_set : (x y : Bits) → bits_of_words xs ≡ x → bits_of_words ys ≡ y → bits_of_words zs ≡ join x y
  union_set x y view_x view_y = joined_sets xs ys zs or_at ∙ ap (λ (s : Bits). join s (bits_of_words ys)) view_x ∙ ap (join x) view_y

  pub union_vector : IsBitVector xs → IsBitVector ys → length ps ≡ max (length xs) (length ys) → length zs ≡ length ps → IsBitVector zs
  union_vector is_x is_y padded len = record {
    trimmed = λ k e none. ⊎_elim
        (λ last. is_x.trimmed k last (omega (arith, le_or_l (slice_index xs k) (slice_index ys k), or_at k, none)))
        (λ other. is_y.trimmed k (omega (arith, other)) (omega (arith, le_or_r (slice_index xs k) (slice_index ys k), or_at k, none)))
        (cases_eq (k + 1) (length xs));
    each = λ k. subst (λ (w : ℕ). w < 2 ^ 64) (sym (or_at k)) (or_lt 64 (slice_index xs k) (slice_index ys k) (is_x.each k) (is_y.each k));
    few = omega (arith, is_x.few, is_y.few);
  }

  pub union_told : (b : Bool) (x : Bits) → bits_of_words xs ≡ x → AreWords xs → AreWords zs → MatchBool b ((k : ℕ) × (slice_index zs k ≢ slice_index ps k)) ((k : ℕ) → slice_index zs k ≡ slice_index ps k) → MatchBool b (bits_of_words zs ≢ x) (bits_of_words zs ≡ x)
  union_told true x view low_x low_z told = λ e. other_sets zs xs low_z low_x told.0 (λ f. told.1 (f ∙ sym (same told.0))) (e ∙ sym view)
  union_told false x view low_x low_z told = same_sets zs xs (has_bit-same zs xs (λ k. told k ∙ same k)) ∙ view

-- ---- a meet
pub met_set : (xs ys ms zs : List ℕ) (x y : Bits) → bits_of_words xs ≡ x → bits_of_words ys ≡ y → ((k : ℕ) → slice_index ms k ≡ bit_and (slice_index xs k) (slice_index ys k)) → ((k : ℕ) → slice_index zs k ≡ slice_index ms k) →
    (q : ℕ) → has (bits_of_words zs) q ≡ (has x q && has y q)
met_set xs ys ms zs x y view_x view_y met same q =
    has-bits_of_words zs q ∙ has_bit-and xs ys zs (λ k. same k ∙ met k) q
    ∙ ap (λ b. b && has_bit ys q) (sym (has-bits_of_words xs q) ∙ ap (λ (s : Bits). has s q) view_x)
    ∙ ap (λ b. has x q && b) (sym (has-bits_of_words ys q) ∙ ap (λ (s : Bits). has s q) view_y)

-- a set has the numbers of its bit vector
pub seen_at : (words : List ℕ) (s : Bits) (q : ℕ) → bits_of_words words ≡ s → has_bit words q ≡ has s q
seen_at words s q view = sym (has-bits_of_words words q) ∙ ap (λ (t : Bits). has t q) view

-- ---- sets compared by their words
-- the numbers of the bit vector are those of the set, in order
pub members_rising : (words : List ℕ) (s : Bits) → bits_of_words words ≡ s → members_from words 0 ≡ rising s
members_rising words s view = sym (rising-bits_of_words words) ∙ ap rising view

equal_lists : (xs ys : List ℕ) → xs ≡ ys → pointwise ◌==◌ xs ys ≡ true
equal_lists xs ys e = ap (pointwise ◌==◌ xs) (sym e) ∙ nat_list_eq_equiv.refl xs

pub equal_sets : (xs ys : List ℕ) (x y : Bits) → IsBitVector xs → IsBitVector ys → bits_of_words xs ≡ x → bits_of_words ys ≡ y → pointwise ◌==◌ xs ys ≡ pointwise ◌==◌ (rising x) (rising y)
equal_sets xs ys x y is_x is_y view_x view_y = ⊎_elim
    (λ t. t ∙ sym (equal_lists (rising x) (rising y) (ap rising (sym view_x ∙ ap bits_of_words (text_exact xs ys t) ∙ view_y))))
    (λ f. f ∙ sym (false_from_ne_true (pointwise ◌==◌ (rising x) (rising y)) (λ h.
    true≢false (sym (equal_lists xs ys (same_vectors xs ys is_x is_y (view_x ∙ bits_exact x y h ∙ sym view_y))) ∙ f))))
    (cases_Bool (pointwise ◌==◌ xs ys))
