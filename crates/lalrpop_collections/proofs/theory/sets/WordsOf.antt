-- The words of a list of numbers: those of the bit vector that has exactly these numbers.
use Rattle.std.proofs.Common.{◌≡◌, ◌≢◌, ℕ, zero, suc, ◌+◌, ◌/◌, ◌%◌, ◌^◌, ◌<◌, ⊎_elim, ◌==◌, true, ◌||◌, List, [], ◌∷◌, length, slice_index, refl, sym, ◌∙◌, ap, arith, eq-eqb, ne_eqb, bit_or, max}
use Rattle.std.specs.Int.{bit_at}
use Rattle.std.specs.Int.Bits.{or_zero_l}
use Rattle.std.proofs.lemmas.Nat.{le_or_r, or_lt, pow_below, pow_pos}
use Rattle.std.proofs.lemmas.Nat.Bits.{bit_at-lt, bit_at_or, bit_at-pow_same, bit_at-pow_other}
use Rattle.std.proofs.lemmas.Bool.{cases_eq, or_left, or_right}
use Rattle.lalrpop_collections.specs.Words.{Bits, rising}
use Rattle.lalrpop_collections.specs.lists.BitVectors.{has_bit, members_from, bits_of_words, IsBitVector, word_joined, bit_words}
use Rattle.lalrpop_collections.proofs.theory.lists.RisingLemmas.{among}
use Rattle.lalrpop_collections.proofs.theory.sets.BitVectorLemmas.{has_bit-is, has_bit-past, has_bit-within, same_lists, same_word_at, rising-bits_of_words, among-members}
use Rattle.lalrpop_collections.proofs.theory.sets.TokenSetLemmas.{no_words_vector}

-- ---- a word that is joined to the word at a place
joined_at : (place word : ℕ) (ws : List ℕ) → slice_index (word_joined place word ws) place ≡ bit_or (slice_index ws place) word
joined_at zero word [] = sym (or_zero_l word)
joined_at zero word (w ∷ ws) = refl
joined_at (suc place) word [] = joined_at place word []
joined_at (suc place) word (w ∷ ws) = joined_at place word ws

joined_other : (place word : ℕ) (ws : List ℕ) (k : ℕ) → k ≢ place → slice_index (word_joined place word ws) k ≡ slice_index ws k
joined_other zero word [] zero o = absurd (o refl)
joined_other zero word [] (suc k) o = refl
joined_other zero word (w ∷ ws) zero o = absurd (o refl)
joined_other zero word (w ∷ ws) (suc k) o = refl
joined_other (suc place) word [] zero o = refl
joined_other (suc place) word [] (suc k) o = joined_other place word [] k (λ e. o (ap suc e))
joined_other (suc place) word (w ∷ ws) zero o = refl
joined_other (suc place) word (w ∷ ws) (suc k) o = joined_other place word ws k (λ e. o (ap suc e))

joined_length : (place word : ℕ) (ws : List ℕ) → length (word_joined place word ws) ≡ max (length ws) (place + 1)
joined_length zero word [] = refl
joined_length zero word (w ∷ ws) = omega arith
joined_length (suc place) word [] = omega (arith, joined_length place word [])
joined_length (suc place) word (w ∷ ws) = omega (arith, joined_length place word ws)

-- the words stay a bit vector
module _ (place word : ℕ) (ws : List ℕ) (is : IsBitVector ws) (some : word ≢ 0) (small : word < 2 ^ 64) (low : place < 2 ^ 57) where
  joined_vector : IsBitVector (word_joined place word ws)
  joined_vector = record {
    trimmed = λ k e none. ⊎_elim
        (λ same. some (omega (arith, le_or_r (slice_index ws place) word, joined_at place word ws, sym (ap (slice_index (word_joined place word ws)) same) ∙ none)))
        (λ other. is.trimmed k (omega (arith, other, e, joined_length place word ws)) (sym (joined_other place word ws k other) ∙ none))
        (cases_eq k place);
    each = λ k. ⊎_elim
        (λ same. omega (arith, or_lt 64 (slice_index ws place) word (is.each place) small, ap (slice_index (word_joined place word ws)) same ∙ joined_at place word ws))
        (λ other. omega (arith, is.each k, joined_other place word ws k other))
        (cases_eq k place);
    few = omega (arith, is.few, joined_length place word ws);
  }

-- ---- a number that is joined to words
with_one : (x y : ℕ) → y ≡ 1 → x < 2 → max x y ≡ 1
with_one x y e l = omega arith

with_none : (x y : ℕ) → y ≡ 0 → max x y ≡ x
with_none x y e = omega arith

module _ (ws : List ℕ) (n : ℕ) where
  abbrev place : ℕ
  place = n / 64

  abbrev word : ℕ
  word = 2 ^ (n % 64)

  abbrev made : List ℕ
  made = word_joined place word ws

  -- the word of the number
  in_word : (q : ℕ) → q / 64 ≡ place → has_bit made q ≡ (max (bit_at (slice_index ws (q / 64)) (q % 64)) (bit_at word (q % 64)) == 1)
  in_word q same =
      let old = slice_index ws (q / 64) in
      let at : slice_index made (q / 64) ≡ bit_or old word =
      ap (slice_index made) same ∙ joined_at place word ws ∙ ap (λ (p : ℕ). bit_or (slice_index ws p) word) (sym same) in
      has_bit-is made q ∙ ap (λ (v : ℕ). bit_at v (q % 64) == 1) at ∙ ap (λ (b : ℕ). b == 1) (bit_at_or old word (q % 64))

  joined_bit : (q : ℕ) → has_bit made q ≡ ((q == n) || has_bit ws q)
  joined_bit q = ⊎_elim
      (λ same. ⊎_elim
      (λ e.
      let one : bit_at word (q % 64) ≡ 1 = ap (bit_at word) e ∙ bit_at-pow_same (n % 64) in
      in_word q same ∙ ap (λ (b : ℕ). b == 1) (with_one (bit_at (slice_index ws (q / 64)) (q % 64)) (bit_at word (q % 64)) one (bit_at-lt (slice_index ws (q / 64)) (q % 64)))
      ∙ sym (or_left (q == n) (has_bit ws q) (eq-eqb q n (omega (arith, same, e)))))
      (λ o.
      let none : bit_at word (q % 64) ≡ 0 = bit_at-pow_other (n % 64) (q % 64) o in
      in_word q same ∙ ap (λ (b : ℕ). b == 1) (with_none (bit_at (slice_index ws (q / 64)) (q % 64)) (bit_at word (q % 64)) none)
      ∙ sym (has_bit-is ws q) ∙ ap (λ b. b || has_bit ws q) (sym (ne_eqb q n (λ e. o (ap (λ (m : ℕ). m % 64) e)))))
      (cases_eq (q % 64) (n % 64)))
      (λ other.
      has_bit-is made q ∙ ap (λ (v : ℕ). bit_at v (q % 64) == 1) (joined_other place word ws (q / 64) other)
      ∙ sym (has_bit-is ws q) ∙ ap (λ b. b || has_bit ws q) (sym (ne_eqb q n (λ e. other (ap (λ (m : ℕ). m / 64) e)))))
      (cases_eq (q / 64) place)

-- ---- the words of numbers
has-bit_words : (ns : List ℕ) (q : ℕ) → has_bit (bit_words ns) q ≡ among q ns
has-bit_words [] q = has_bit-past [] q (omega arith)
has-bit_words (n ∷ ns) q = joined_bit (bit_words ns) n q ∙ ap (λ b. (q == n) || b) (has-bit_words ns q)

words_of_vector : (ns : List ℕ) → ((q : ℕ) → among q ns ≡ true → q < 2 ^ 63) → IsBitVector (bit_words ns)
words_of_vector [] low = no_words_vector
words_of_vector (n ∷ ns) low =
    let here : n < 2 ^ 63 = low n (or_left (n == n) (among n ns) (eq-eqb n n refl)) in
    joined_vector (n / 64) (2 ^ (n % 64)) (bit_words ns)
    (words_of_vector ns (λ q there. low q (or_right (q == n) (among q ns) there)))
    (λ e. omega (arith, e, pow_pos (n % 64))) (pow_below (n % 64) 64 (omega arith)) (omega (arith, here))

-- the words of the numbers of a bit vector are its own
bit_words-members : (words : List ℕ) → IsBitVector words → bit_words (members_from words 0) ≡ words
bit_words-members words is =
    let ns = members_from words 0 in
    let vector : IsBitVector (bit_words ns) = words_of_vector ns (λ q there. omega (arith, is.few, has_bit-within words q (sym (among-members words q) ∙ there))) in
    same_lists (bit_words ns) words vector is (same_word_at (bit_words ns) words vector.each is.each (λ q. has-bit_words ns q ∙ among-members words q))

bit_words-rising : (words : List ℕ) → IsBitVector words → bit_words (rising (bits_of_words words)) ≡ words
bit_words-rising words is = ap bit_words (rising-bits_of_words words) ∙ bit_words-members words is

-- the words of a set of a bit vector are its own
pub words_of_set : (words : List ℕ) (s : Bits) → bits_of_words words ≡ s → IsBitVector words → words ≡ bit_words (rising s)
words_of_set words s view is = sym (bit_words-rising words is) ∙ ap (λ (t : Bits). bit_words (rising t)) view
