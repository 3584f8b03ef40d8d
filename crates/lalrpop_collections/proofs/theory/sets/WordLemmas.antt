-- Words that are shifted, met, set, cleared and filled.
use Rattle.std.proofs.Common.{◌≡◌, ◌≢◌, ℕ, suc, ◌+◌, ◌-◌, ◌*◌, ◌/◌, ◌%◌, ◌^◌, ◌<◌, ◌≤◌, ⊎_elim, ◌==◌, Bool, true, false, ◌||◌, ◌&&◌, not, List, [], ◌∷◌, ◌++◌, length, slice_index, slice_set, refl, sym, ◌∙◌, ap, subst, arith, eqb-true, eq-eqb, ne_eqb, w64, bit_and, bit_or, min, replicate, Option, Some, None, IfSome, bit_xor}
use Rattle.std.specs.Prelude.{nat_lt}
use Rattle.std.specs.Int.{bit_at, bit_not, trailing_zeros}
use Rattle.std.proofs.lemmas.List.{get_or_past, get_or-set_same, get_or-set_other, get_or-replicate, get_or_append_left, get_or_push, length_push, length-replicate}
use Rattle.std.proofs.lemmas.Nat.{xor_lt, or_disjoint, pow_below, shr-shr, shr_below, and_le_l, and_le_r}
use Rattle.std.proofs.lemmas.Nat.Bits.{bit_at-zero, bit_at-lt, bit_at-suc, bit_at_and, bit_at_not, bit_at_xor, bit_at_above, bit_at_ones, bit_at_ones_above, bit_at-trailing_zeros, bit_at_set_same, bit_at_set_other, bit_at_clear_same, bit_at_clear_other}
use Rattle.std.proofs.lemmas.Bool.{cases_eq, cases_lt, lt-ltb, le-ltb, and_parts, or_left}
use Rattle.lalrpop_collections.specs.lists.BitVectors.{has_bit, IsBitVector, IsLeastApart, IsLeastFrom}
use Rattle.lalrpop_collections.proofs.theory.sets.BitVectorLemmas.{has_bit-at, has_bit-is, has_bit-past, has_bit-within, and_test, one_bit, lowest, none_in, none_below}

is_one : (b : ℕ) → (b == 1) ≡ true → b ≡ 1
is_one b t = eqb-true b 1 t

-- ---- a word that is shifted by the bit of a number
module _ (words : List ℕ) (first rest : ℕ) (is : rest ≡ slice_index words (first / 64) / 2 ^ (first % 64)) where
  pub shifted : (i : ℕ) → first % 64 + i < 64 → has_bit words (first + i) ≡ (bit_at rest i == 1)
  shifted i l =
      let w = slice_index words (first / 64) in
      let s = first % 64 in
      let n : 64 * (first / 64) + (s + i) ≡ first + i = omega arith in
      let bits : bit_at w (s + i) ≡ bit_at rest i = ap (λ (m : ℕ). m % 2) (sym (shr-shr w s i)) ∙ ap (λ (m : ℕ). bit_at m i) (sym is) in
      ap (has_bit words) (sym n) ∙ has_bit-at words (first / 64) (s + i) l ∙ ap (λ (b : ℕ). b == 1) bits

  pub shifted_within : slice_index words (first / 64) < 2 ^ 64 → (i : ℕ) → bit_at rest i ≡ 1 → first % 64 + i < 64
  shifted_within low i one =
      let w = slice_index words (first / 64) in
      let s = first % 64 in
      let width : (64 - s) + s ≡ 64 = omega arith in
      let small : rest < 2 ^ (64 - s) = subst (λ (m : ℕ). m < 2 ^ (64 - s)) (sym is) (shr_below w (64 - s) s (subst (λ (m : ℕ). w < 2 ^ m) (sym width) low)) in
      ⊎_elim (λ l. l) (λ l. absurd (omega (arith, one, bit_at_above rest (64 - s) i small (omega arith)))) (cases_lt (s + i) 64)

  pub shifted_least : slice_index words (first / 64) < 2 ^ 64 → rest ≢ 0 → rest < 2 ^ 64 → IsLeastFrom words first (first + trailing_zeros w64 rest)
  shifted_least low some small =
      let t = bit_at-trailing_zeros w64 rest (omega arith) small in
      let z = trailing_zeros w64 rest in
      let within = shifted_within low z t.1 in record {
        above = omega arith;
        there = shifted z within ∙ ap (λ (b : ℕ). b == 1) t.1;
        none = λ q from to.
            let i = q - first in
            let n : first + i ≡ q = omega arith in
            ap (has_bit words) (sym n) ∙ shifted i (omega (arith, within)) ∙ ap (λ (b : ℕ). b == 1) (t.2 i (omega arith));
      }

  pub shifted_none : rest ≡ 0 → (n : ℕ) → first ≤ n → n < 64 * (first / 64) + 64 → has_bit words n ≡ false
  shifted_none none n from to =
      let i = n - first in
      let m : first + i ≡ n = omega arith in
      ap (has_bit words) (sym m) ∙ shifted i (omega arith) ∙ ap (λ (w : ℕ). bit_at w i == 1) none ∙ ap (λ (b : ℕ). b == 1) (bit_at-zero i)

  pub shifted_greater : slice_index words (first / 64) < 2 ^ 64 → rest < 2 ^ 64 → rest / 2 ≢ 0 → (n : ℕ) × (first < n) × (has_bit words n ≡ true)
  shifted_greater low small some =
      let t = bit_at-trailing_zeros w64 (rest / 2) (omega arith) (omega arith) in
      let z = trailing_zeros w64 (rest / 2) in
      let one : bit_at rest (suc z) ≡ 1 = bit_at-suc rest z ∙ t.1 in
      (first + suc z, omega arith, shifted (suc z) (shifted_within low (suc z) one) ∙ ap (λ (b : ℕ). b == 1) one)

  pub shifted_no_greater : rest / 2 ≡ 0 → (n : ℕ) → first < n → n < 64 * (first / 64) + 64 → has_bit words n ≡ false
  shifted_no_greater none n from to =
      let i = n - first - 1 in
      let m : first + suc i ≡ n = omega arith in
      let bits : bit_at rest (suc i) ≡ 0 = bit_at-suc rest i ∙ ap (λ (w : ℕ). bit_at w i) none ∙ bit_at-zero i in
      ap (has_bit words) (sym m) ∙ shifted (suc i) (omega arith) ∙ ap (λ (b : ℕ). b == 1) bits

-- ---- two words that share a bit, or no bit
pub shared_bit : (xs ys : List ℕ) (k : ℕ) → bit_and (slice_index xs k) (slice_index ys k) ≢ 0 → slice_index xs k < 2 ^ 64 → (n : ℕ) × (has_bit xs n ≡ true) × (has_bit ys n ≡ true)
shared_bit xs ys k some low =
    let x = slice_index xs k in
    let y = slice_index ys k in
    let t = bit_at-trailing_zeros w64 (bit_and x y) (omega arith) (omega (arith, and_le_l x y)) in
    let i = trailing_zeros w64 (bit_and x y) in
    let tests : ((bit_at x i == 1) && (bit_at y i == 1)) ≡ true =
    sym (and_test (bit_at x i) (bit_at y i) (bit_at-lt x i) (bit_at-lt y i)) ∙ ap (λ (b : ℕ). b == 1) (sym (bit_at_and x y i) ∙ t.1) in
    let both = and_parts (bit_at x i == 1) (bit_at y i == 1) tests in
    (64 * k + i, has_bit-at xs k i t.0 ∙ both.0, has_bit-at ys k i t.0 ∙ both.1)

pub apart_words : (xs ys : List ℕ) (n : ℕ) → bit_and (slice_index xs (n / 64)) (slice_index ys (n / 64)) ≡ 0 → has_bit xs n ≡ true → has_bit ys n ≡ true → ⊥
apart_words xs ys n none here there =
    let x = slice_index xs (n / 64) in
    let y = slice_index ys (n / 64) in
    let i = n % 64 in
    let one = is_one (bit_at x i) (sym (has_bit-is xs n) ∙ here) in
    let other = is_one (bit_at y i) (sym (has_bit-is ys n) ∙ there) in
    let zero_bit : min (bit_at x i) (bit_at y i) ≡ 0 = sym (bit_at_and x y i) ∙ ap (λ (w : ℕ). bit_at w i) none ∙ bit_at-zero i in
    omega (arith, one, other, zero_bit)

-- ---- a word with a bit that another does not have, or without such a bit
pub bit_more : (xs ys : List ℕ) (k : ℕ) → bit_and (slice_index xs k) (bit_not w64 (slice_index ys k)) ≢ 0 → slice_index xs k < 2 ^ 64 → slice_index ys k < 2 ^ 64 →
    (n : ℕ) × (has_bit xs n ≡ true) × (has_bit ys n ≡ false)
bit_more xs ys k some low_x low_y =
    let x = slice_index xs k in
    let y = slice_index ys k in
    let z = bit_not w64 y in
    let t = bit_at-trailing_zeros w64 (bit_and x z) (omega arith) (omega (arith, and_le_l x z)) in
    let i = trailing_zeros w64 (bit_and x z) in
    let both : min (bit_at x i) (bit_at z i) ≡ 1 = sym (bit_at_and x z i) ∙ t.1 in
    let flipped : bit_at z i ≡ 1 - bit_at y i = bit_at_not w64 y i low_y t.0 in
    let one : bit_at x i ≡ 1 = omega (arith, both, bit_at-lt x i, bit_at-lt z i) in
    let none : bit_at y i ≡ 0 = omega (arith, both, flipped, bit_at-lt x i, bit_at-lt y i) in
    (64 * k + i, has_bit-at xs k i t.0 ∙ ap (λ (b : ℕ). b == 1) one, has_bit-at ys k i t.0 ∙ ap (λ (b : ℕ). b == 1) none)

pub no_bit_more : (xs ys : List ℕ) (n : ℕ) → bit_and (slice_index xs (n / 64)) (bit_not w64 (slice_index ys (n / 64))) ≡ 0 → slice_index ys (n / 64) < 2 ^ 64 →
    has_bit xs n ≡ true → has_bit ys n ≡ true
no_bit_more xs ys n none low here =
    let x = slice_index xs (n / 64) in
    let y = slice_index ys (n / 64) in
    let z = bit_not w64 y in
    let i = n % 64 in
    let one : bit_at x i ≡ 1 = is_one (bit_at x i) (sym (has_bit-is xs n) ∙ here) in
    let flipped : bit_at z i ≡ 1 - bit_at y i = bit_at_not w64 y i low (omega arith) in
    let zero_bit : min (bit_at x i) (bit_at z i) ≡ 0 = sym (bit_at_and x z i) ∙ ap (λ (w : ℕ). bit_at w i) none ∙ bit_at-zero i in
    let other : bit_at y i ≡ 1 = omega (arith, one, flipped, zero_bit, bit_at-lt y i) in
    has_bit-is ys n ∙ ap (λ (b : ℕ). b == 1) other

pub and_zero_right : (x y : ℕ) → y ≡ 0 → bit_and x y ≡ 0
and_zero_right x y e = omega (arith, and_le_r x y, e)

-- ---- a bit that is set, or cleared
module _ (words : List ℕ) (number : ℕ) (within : number / 64 < length words) where
  abbrev at : ℕ
  at = number / 64

  abbrev bit : ℕ
  bit = number % 64

  pub put_bit : (q : ℕ) → has_bit (slice_set words at (bit_or (slice_index words at) (1 * 2 ^ bit % 2 ^ 64))) q ≡ ((q == number) || has_bit words q)
  put_bit q =
      let w = slice_index words at in
      let new = bit_or w (1 * 2 ^ bit % 2 ^ 64) in
      let made = slice_set words at new in
      ⊎_elim
      (λ same.
      let word : slice_index made (q / 64) ≡ new = ap (slice_index made) same ∙ get_or-set_same words at new 0 within in
      let left : has_bit made q ≡ (bit_at new (q % 64) == 1) = has_bit-is made q ∙ ap (λ (v : ℕ). bit_at v (q % 64) == 1) word in
      ⊎_elim
      (λ e.
      let equal : q ≡ number = omega arith in
      left ∙ ap (λ (i : ℕ). bit_at new i == 1) e ∙ ap (λ (b : ℕ). b == 1) (bit_at_set_same w64 w bit (omega arith))
      ∙ sym (or_left (q == number) (has_bit words q) (eq-eqb q number equal)))
      (λ o.
      let apart : (q == number) ≡ false = ne_eqb q number (λ e. o (ap (λ (m : ℕ). m % 64) e)) in
      left ∙ ap (λ (b : ℕ). b == 1) (bit_at_set_other w64 w bit (omega arith) (q % 64) o)
      ∙ ap (λ (p : ℕ). bit_at (slice_index words p) (q % 64) == 1) (sym same) ∙ sym (has_bit-is words q)
      ∙ ap (λ b. b || has_bit words q) (sym apart))
      (cases_eq (q % 64) bit))
      (λ other.
      let apart : (q == number) ≡ false = ne_eqb q number (λ e. other (ap (λ (m : ℕ). m / 64) e)) in
      has_bit-is made q ∙ ap (λ (v : ℕ). bit_at v (q % 64) == 1) (get_or-set_other words at (q / 64) new 0 other) ∙ sym (has_bit-is words q)
      ∙ ap (λ b. b || has_bit words q) (sym apart))
      (cases_eq (q / 64) at)

  pub put_some : slice_index (slice_set words at (bit_or (slice_index words at) (1 * 2 ^ bit % 2 ^ 64))) at ≢ 0
  put_some e =
      let w = slice_index words at in
      let new = bit_or w (1 * 2 ^ bit % 2 ^ 64) in
      let one : bit_at new bit ≡ 1 = bit_at_set_same w64 w bit (omega arith) in
      let none : new ≡ 0 = sym (get_or-set_same words at new 0 within) ∙ e in
      let zero_bit : bit_at new bit ≡ 0 = ap (λ (v : ℕ). bit_at v bit) none ∙ bit_at-zero bit in
      omega (arith, one, zero_bit)

  pub take_bit : (q : ℕ) → has_bit (slice_set words at (bit_and (slice_index words at) (bit_not w64 (1 * 2 ^ bit % 2 ^ 64)))) q ≡ (has_bit words q && not (q == number))
  take_bit q =
      let w = slice_index words at in
      let new = bit_and w (bit_not w64 (1 * 2 ^ bit % 2 ^ 64)) in
      let made = slice_set words at new in
      ⊎_elim
      (λ same.
      let word : slice_index made (q / 64) ≡ new = ap (slice_index made) same ∙ get_or-set_same words at new 0 within in
      let left : has_bit made q ≡ (bit_at new (q % 64) == 1) = has_bit-is made q ∙ ap (λ (v : ℕ). bit_at v (q % 64) == 1) word in
      ⊎_elim
      (λ e.
      let equal : q ≡ number = omega arith in
      left ∙ ap (λ (i : ℕ). bit_at new i == 1) e ∙ ap (λ (b : ℕ). b == 1) (bit_at_clear_same w64 w bit (omega arith))
      ∙ sym (gone (has_bit words q) (q == number) (eq-eqb q number equal)))
      (λ o.
      let apart : (q == number) ≡ false = ne_eqb q number (λ e. o (ap (λ (m : ℕ). m % 64) e)) in
      left ∙ ap (λ (b : ℕ). b == 1) (bit_at_clear_other w64 w bit (omega arith) (q % 64) (omega arith) o)
      ∙ ap (λ (p : ℕ). bit_at (slice_index words p) (q % 64) == 1) (sym same) ∙ sym (has_bit-is words q)
      ∙ sym (kept (has_bit words q) (q == number) apart))
      (cases_eq (q % 64) bit))
      (λ other.
      let apart : (q == number) ≡ false = ne_eqb q number (λ e. other (ap (λ (m : ℕ). m / 64) e)) in
      has_bit-is made q ∙ ap (λ (v : ℕ). bit_at v (q % 64) == 1) (get_or-set_other words at (q / 64) new 0 other) ∙ sym (has_bit-is words q)
      ∙ sym (kept (has_bit words q) (q == number) apart))
      (cases_eq (q / 64) at)
    where
      gone : (a b : Bool) → b ≡ true → (a && not b) ≡ false
      gone true b e = ap not e
      gone false b e = refl

      kept : (a b : Bool) → b ≡ false → (a && not b) ≡ a
      kept true b e = ap not e
      kept false b e = refl

-- ---- the words of the numbers below a count
module _ (words : List ℕ) (count : ℕ) (full : (k : ℕ) → k < count / 64 → slice_index words k ≡ 2 ^ 64 - 1) (part : slice_index words (count / 64) ≡ 2 ^ (count % 64) - 1) (past : (k : ℕ) → count / 64 < k → slice_index words k ≡ 0) where
  pub below_bit : (q : ℕ) → has_bit words q ≡ nat_lt q count
  below_bit q = ⊎_elim
      (λ low. ⊎_elim
      (λ deep.
      has_bit-is words q ∙ ap (λ (v : ℕ). bit_at v (q % 64) == 1) (full (q / 64) deep) ∙ ap (λ (b : ℕ). b == 1) (bit_at_ones 64 (q % 64) (omega arith)) ∙ sym (lt-ltb q count low))
      (λ last.
      let same : q / 64 ≡ count / 64 = omega arith in
      has_bit-is words q ∙ ap (λ (p : ℕ). bit_at (slice_index words p) (q % 64) == 1) same ∙ ap (λ (v : ℕ). bit_at v (q % 64) == 1) part
      ∙ ap (λ (b : ℕ). b == 1) (bit_at_ones (count % 64) (q % 64) (omega arith)) ∙ sym (lt-ltb q count low))
      (cases_lt (q / 64) (count / 64)))
      (λ high. ⊎_elim
      (λ far.
      has_bit-is words q ∙ ap (λ (v : ℕ). bit_at v (q % 64) == 1) (past (q / 64) far) ∙ ap (λ (b : ℕ). b == 1) (bit_at-zero (q % 64)) ∙ sym (le-ltb q count high))
      (λ last.
      let same : q / 64 ≡ count / 64 = omega arith in
      has_bit-is words q ∙ ap (λ (p : ℕ). bit_at (slice_index words p) (q % 64) == 1) same ∙ ap (λ (v : ℕ). bit_at v (q % 64) == 1) part
      ∙ ap (λ (b : ℕ). b == 1) (bit_at_ones_above (count % 64) (q % 64) (omega arith)) ∙ sym (le-ltb q count high))
      (cases_lt (count / 64) (q / 64)))
      (cases_lt q count)

-- ---- the lowest bit in which two words differ
module _ (xs ys : List ℕ) (k x y : ℕ) (is_x : x ≡ slice_index xs k) (is_y : y ≡ slice_index ys k) where
  bit_x : (i : ℕ) → i < 64 → has_bit xs (64 * k + i) ≡ (bit_at x i == 1)
  bit_x i l = has_bit-at xs k i l ∙ ap (λ (w : ℕ). bit_at w i == 1) (sym is_x)

  bit_y : (i : ℕ) → i < 64 → has_bit ys (64 * k + i) ≡ (bit_at y i == 1)
  bit_y i l = has_bit-at ys k i l ∙ ap (λ (w : ℕ). bit_at w i == 1) (sym is_y)

  same_bit : (i : ℕ) → bit_at (bit_xor x y) i ≡ 0 → bit_at x i ≡ bit_at y i
  same_bit i e = omega (arith, bit_at-lt x i, bit_at-lt y i, sym (bit_at_xor x y i) ∙ e)

  other_bit : (i : ℕ) → bit_at (bit_xor x y) i ≡ 1 → (bit_at x i == 1) ≢ (bit_at y i == 1)
  other_bit i e same =
      let equal = one_bit (bit_at x i) (bit_at y i) (bit_at-lt x i) (bit_at-lt y i) same in
      omega (arith, bit_at-lt x i, bit_at-lt y i, sym (bit_at_xor x y i) ∙ e, equal)

  pub least_apart : bit_xor x y ≢ 0 → x < 2 ^ 64 → y < 2 ^ 64 → ((m : ℕ) → m < k → slice_index xs m ≡ slice_index ys m) → IsLeastApart (has_bit xs) (has_bit ys) (64 * k + trailing_zeros w64 (bit_xor x y))
  least_apart some low_x low_y before =
      let t = bit_at-trailing_zeros w64 (bit_xor x y) (omega arith) (xor_lt 64 x y low_x low_y) in
      let z = trailing_zeros w64 (bit_xor x y) in record {
        apart = λ e. other_bit z t.1 (sym (bit_x z t.0) ∙ e ∙ bit_y z t.0);
        same = λ q l. ⊎_elim
            (λ low.
            has_bit-is xs q ∙ ap (λ (w : ℕ). bit_at w (q % 64) == 1) (before (q / 64) (omega arith)) ∙ sym (has_bit-is ys q))
            (λ high.
            let i = q - 64 * k in
            let n : 64 * k + i ≡ q = omega arith in
            let within : i < 64 = omega (arith, t.0) in
            ap (has_bit xs) (sym n) ∙ bit_x i within ∙ ap (λ (b : ℕ). b == 1) (same_bit i (t.2 i (omega arith))) ∙ sym (bit_y i within) ∙ ap (has_bit ys) n)
            (cases_lt q (64 * k));
      }

-- ---- the least number that is not below a first one, in a later word
pub later_least : (words : List ℕ) (first k : ℕ) → first ≤ 64 * k → ((n : ℕ) → first ≤ n → n < 64 * k → has_bit words n ≡ false) → slice_index words k ≢ 0 → slice_index words k < 2 ^ 64 → IsLeastFrom words first (64 * k + trailing_zeros w64 (slice_index words k))
later_least words first k below before some low = record {
  above = omega arith;
  there = (lowest words k some low).1;
  none = λ q from to. ⊎_elim (λ l. before q from l) (λ l. none_below words k q some low l to) (cases_lt q (64 * k));
}

pub later_none : (words : List ℕ) (first k : ℕ) → ((n : ℕ) → first ≤ n → n < 64 * k → has_bit words n ≡ false) → slice_index words k ≡ 0 → (n : ℕ) → first ≤ n → n < 64 * (k + 1) → has_bit words n ≡ false
later_none words first k before none n from to = ⊎_elim (λ l. before n from l) (λ l. none_in words k n none l (omega arith)) (cases_lt n (64 * k))

pub none_left : (words : List ℕ) (first k : ℕ) → ((n : ℕ) → first ≤ n → n < 64 * k → has_bit words n ≡ false) → length words ≤ k → (n : ℕ) → first ≤ n → has_bit words n ≡ false
none_left words first k before end n from = ⊎_elim (λ l. before n from l) (λ l. has_bit-past words n (omega arith)) (cases_lt n (64 * k))

pub least_within : (words : List ℕ) (first : ℕ) (o : Option ℕ) → IfSome o (IsLeastFrom words first) → IfSome o (λ n. n < 64 * length words)
least_within words first None h = tt
least_within words first (Some n) h = has_bit-within words n h.there

-- ---- words of ones
module _ (count : ℕ) (low : count ≤ 2 ^ 63) where
  whole : (words : List ℕ) → words ≡ replicate (count / 64) (2 ^ 64 - 1) → length words ≡ count / 64
  whole words e = ap length e ∙ length-replicate (count / 64) (2 ^ 64 - 1)

  full_word : (words : List ℕ) → words ≡ replicate (count / 64) (2 ^ 64 - 1) → (k : ℕ) → k < count / 64 → slice_index words k ≡ 2 ^ 64 - 1
  full_word words e k l = ap (λ (ws : List ℕ). slice_index ws k) e ∙ get_or-replicate (count / 64) k (2 ^ 64 - 1) 0 l

  pub full_below : (words : List ℕ) → words ≡ replicate (count / 64) (2 ^ 64 - 1) → count % 64 ≡ 0 → (q : ℕ) → has_bit words q ≡ nat_lt q count
  full_below words e none =
      let len = whole words e in
      let power : 2 ^ (count % 64) ≡ 1 = ap (λ (r : ℕ). 2 ^ r) none in
      below_bit words count (full_word words e) (get_or_past words (count / 64) 0 (omega arith) ∙ omega (arith, power)) (λ k l. get_or_past words k 0 (omega arith))

  pub full_vector : (words : List ℕ) → words ≡ replicate (count / 64) (2 ^ 64 - 1) → IsBitVector words
  full_vector words e =
      let len = whole words e in record {
        trimmed = λ k at none. omega (arith, none, full_word words e k (omega arith));
        each = λ k. ⊎_elim (λ l. omega (arith, full_word words e k l)) (λ l. omega (arith, get_or_past words k 0 (omega arith))) (cases_lt k (count / 64));
        few = omega arith;
      }

  -- one more word, which has the numbers that are left
  module _ (words : List ℕ) (last : ℕ) (is : last ≡ 2 ^ (count % 64) - 1) (some : count % 64 ≢ 0) (more : List ℕ) (made : more ≡ words ++ last ∷ []) (full : words ≡ replicate (count / 64) (2 ^ 64 - 1)) where
    longer : length more ≡ count / 64 + 1
    longer = ap length made ∙ length_push words last ∙ ap (λ (n : ℕ). n + 1) (whole words full)

    first_words : (k : ℕ) → k < count / 64 → slice_index more k ≡ 2 ^ 64 - 1
    first_words k l = ap (λ (ws : List ℕ). slice_index ws k) made ∙ get_or_append_left words (last ∷ []) 0 k (omega (arith, whole words full)) ∙ full_word words full k l

    last_word : slice_index more (count / 64) ≡ 2 ^ (count % 64) - 1
    last_word = ap (λ (ws : List ℕ). slice_index ws (count / 64)) made ∙ get_or_push words last 0 (count / 64) (whole words full) ∙ is

    pub part_below : (q : ℕ) → has_bit more q ≡ nat_lt q count
    part_below = below_bit more count first_words last_word (λ k l. get_or_past more k 0 (omega (arith, longer)))

    small : 2 ^ (count % 64) < 2 ^ 64
    small = pow_below (count % 64) 64 (omega arith)

    large : 2 ≤ 2 ^ (count % 64)
    large = ⊎_elim
        (λ e. omega (arith, ap (λ (r : ℕ). 2 ^ r) e))
        (λ o. omega (arith, pow_below 1 (count % 64) (omega (arith, o))))
        (cases_eq (count % 64) 1)

    pub part_vector : IsBitVector more
    part_vector = record {
      trimmed = λ k at none.
          let end : k ≡ count / 64 = omega (arith, longer) in
          omega (arith, large, last_word, sym (ap (λ (m : ℕ). slice_index more m) end) ∙ none);
      each = λ k. ⊎_elim
          (λ l. omega (arith, first_words k l))
          (λ l. ⊎_elim
          (λ e. omega (arith, small, ap (λ (m : ℕ). slice_index more m) e ∙ last_word))
          (λ o. omega (arith, get_or_past more k 0 (omega (arith, longer, o, l))))
          (cases_eq k (count / 64)))
          (cases_lt k (count / 64));
      few = omega (arith, longer, some);
    }

pub or_zero : (x : ℕ) → bit_or x 0 ≡ x
or_zero x = or_disjoint x 0 (and_zero_right x 0 refl) ∙ omega arith
