-- 64-bit words as sets of bits.
use Rattle.std.specs.Prelude.{◌≡◌, ℕ, zero, suc, ◌<◌, ◌^◌, ◌==◌, Bool, true, false, cond, ◌&&◌, ◌||◌, nat_lt, max, bit_or, refl}
use Rattle.std.specs.Int.{bit_at}
use Rattle.std.proofs.Common.{sym, ◌∙◌, ap, arith, ⊎_elim, eq-eqb, ne_eqb, lt-ltb, le-ltb, pow-suc}
use Rattle.std.proofs.lemmas.Bool.{cases_Bool, cases_lt}
use Rattle.std.proofs.lemmas.Nat.Bits.{bit_at_or, bit_at-lt, bit_at_above, same_from_bits}
use Rattle.lalrpop_base.specs.Words.{Bits, has, no_bits, with_bit, join, same_bits, has-no_bits, has-with_bit, has-join}

-- whether a word has the bit
abbrev pub word_has_bit : ℕ → ℕ → Bool
word_has_bit word bit = bit_at word bit == 1

-- whether the bit is one of the 64, and a word has it
abbrev pub holds_bit : ℕ → ℕ → Bool
holds_bit word bit = nat_lt bit 64 && word_has_bit word bit

-- the set of the bits of a word that are less than a bound
abbrev pub bits_below : ℕ → ℕ → Bits
bits_below zero word = no_bits
bits_below (suc bit) word = cond (word_has_bit word bit) (with_bit (bits_below bit word) bit) (bits_below bit word)

-- the set of the bits of a word, each of which is less than the word
pub bits_of_word : ℕ → Bits
bits_of_word word = bits_below word word

one_more : (bit bound : ℕ) (t : ℕ → Bool) → t bound ≡ true → ((bit == bound) || (nat_lt bit bound && t bit)) ≡ (nat_lt bit (suc bound) && t bit)
one_more bit bound t there =
    ⊎_elim
    (λ less. rw (ne_eqb bit bound (λ same. omega arith), lt-ltb bit bound less, lt-ltb bit (suc bound) (omega arith)) refl)
    (λ most. ⊎_elim
    (λ below. let same : bit ≡ bound = omega arith in rw (eq-eqb bit bound same, lt-ltb bit (suc bound) below, ap t same, there) refl)
    (λ above. rw (ne_eqb bit bound (λ same. omega arith), le-ltb bit bound most, le-ltb bit (suc bound) above) refl)
    (cases_lt bit (suc bound)))
    (cases_lt bit bound)

not_more : (bit bound : ℕ) (t : ℕ → Bool) → t bound ≡ false → (nat_lt bit bound && t bit) ≡ (nat_lt bit (suc bound) && t bit)
not_more bit bound t absent =
    ⊎_elim
    (λ less. rw (lt-ltb bit bound less, lt-ltb bit (suc bound) (omega arith)) refl)
    (λ most. ⊎_elim
    (λ below. let same : bit ≡ bound = omega arith in rw (ap t same, absent, le-ltb bit bound most, lt-ltb bit (suc bound) below) refl)
    (λ above. rw (le-ltb bit bound most, le-ltb bit (suc bound) above) refl)
    (cases_lt bit (suc bound)))
    (cases_lt bit bound)

has-bits_below : (bound word bit : ℕ) → has (bits_below bound word) bit ≡ (nat_lt bit bound && word_has_bit word bit)
has-bits_below zero word bit = has-no_bits bit ∙ ap (λ t. t && word_has_bit word bit) (sym (le-ltb bit 0 (omega arith)))
has-bits_below (suc bound) word bit =
    ⊎_elim
    (λ there. ap (λ t. has (cond t (with_bit (bits_below bound word) bound) (bits_below bound word)) bit) there ∙ has-with_bit (bits_below bound word) bound bit
    ∙ ap (λ t. (bit == bound) || t) (has-bits_below bound word bit) ∙ one_more bit bound (λ b. word_has_bit word b) there)
    (λ absent. ap (λ t. has (cond t (with_bit (bits_below bound word) bound) (bits_below bound word)) bit) absent ∙ has-bits_below bound word bit ∙ not_more bit bound (λ b. word_has_bit word b) absent)
    (cases_Bool (word_has_bit word bound))

lt_pow : (n : ℕ) → n < 2 ^ n
lt_pow zero = omega arith
lt_pow (suc n) = omega (arith, lt_pow n, pow-suc 2 n)

-- the set of a word has a bit exactly if the word has it
pub has-bits_of_word : (word bit : ℕ) → has (bits_of_word word) bit ≡ word_has_bit word bit
unfolding bits_of_word
has-bits_of_word word bit =
    has-bits_below word word bit
    ∙ ⊎_elim
    (λ less. ap (λ t. t && word_has_bit word bit) (lt-ltb bit word less))
    (λ most. ap (λ t. t && word_has_bit word bit) (le-ltb bit word most) ∙ sym (ap (λ n. n == 1) (bit_at_above word bit bit (omega (arith, lt_pow bit)) (omega arith))))
    (cases_lt bit word)

one_bit : (x y : ℕ) → x < 2 → y < 2 → (x == 1) ≡ (y == 1) → x ≡ y
one_bit zero zero l m e = refl
one_bit zero (suc zero) l m e = cc
one_bit (suc zero) zero l m e = cc
one_bit (suc zero) (suc zero) l m e = refl
one_bit (suc (suc x)) y l m e = absurd (omega arith)
one_bit x (suc (suc y)) l m e = absurd (omega arith)

-- words with equal sets are equal
pub same_word : (a b : ℕ) → bits_of_word a ≡ bits_of_word b → a ≡ b
same_word a b same = same_from_bits a b (λ bit. let tests : word_has_bit a bit ≡ word_has_bit b bit = sym (has-bits_of_word a bit) ∙ ap (λ s. has s bit) same ∙ has-bits_of_word b bit in one_bit (bit_at a bit) (bit_at b bit) (bit_at-lt a bit) (bit_at-lt b bit) tests)

-- the set of the word 0 is empty
pub word-zero : bits_of_word 0 ≡ no_bits
unfolding bits_of_word
word-zero = refl

or_test : (x y : ℕ) → x < 2 → y < 2 → (max x y == 1) ≡ ((x == 1) || (y == 1))
or_test zero zero l m = refl
or_test zero (suc zero) l m = refl
or_test (suc zero) zero l m = refl
or_test (suc zero) (suc zero) l m = refl
or_test (suc (suc x)) y l m = absurd (omega arith)
or_test x (suc (suc y)) l m = absurd (omega arith)

-- the set of the bitwise or of two words is the union of their sets
pub word-or : (a b : ℕ) → bits_of_word (bit_or a b) ≡ join (bits_of_word a) (bits_of_word b)
word-or a b =
    same_bits _ _ (λ bit. has-bits_of_word (bit_or a b) bit ∙ ap (λ n. n == 1) (bit_at_or a b bit) ∙ or_test (bit_at a bit) (bit_at b bit) (bit_at-lt a bit) (bit_at-lt b bit)
    ∙ sym (has-join (bits_of_word a) (bits_of_word b) bit ∙ ap (λ t. t || has (bits_of_word b) bit) (has-bits_of_word a bit) ∙ ap (λ t. word_has_bit a bit || t) (has-bits_of_word b bit)))
