-- The number of bits of a set.
use Rattle.std.proofs.Common.{◌≡◌, ◌≢◌, ℕ, zero, suc, ◌+◌, ◌<◌, ◌≤◌, ◌⊎◌, inl, inr, ◌==◌, Bool, true, false, cond, ◌||◌, List, [], ◌∷◌, length, refl, sym, ◌∙◌, ap, arith, eq-eqb}
use Rattle.std.specs.Ordering.{nat_cmp}
use Rattle.std.specs.Cmp.{nat_cmp_total}
use Rattle.std.specs.FinMap as finite
use Rattle.std.specs.List.{list_any}
use Rattle.std.proofs.lemmas.Bool.{cases_Bool, cases_order, cond-false, or_left, or_right, true≢false}
use Rattle.std.proofs.lemmas.List.{length-map}
use Rattle.lalrpop_collections.specs.Words.{Bits, has, rising, no_bits, with_bit, join, has-no_bits, has-with_bit, has-join, has-rising, same_bits}
use Rattle.lalrpop_collections.proofs.theory.sets.BitLemmas.{with_bit-there}

abbrev count : Bits → ℕ
count s = length (rising s)

count-len : (s : Bits) → count s ≡ finite.len s
count-len s = length-map (finite.entries s) (λ (e : ℕ × Unit {0}). e.0) ∙ sym (finite.len-entries s)

count-no_bits : count no_bits ≡ 0
count-no_bits = count-len no_bits ∙ finite.len-empty nat_cmp (Unit {0})

count-with_bit : (s : Bits) (b : ℕ) → count (with_bit s b) ≡ cond (has s b) (count s) (count s + 1)
count-with_bit s b = count-len (with_bit s b) ∙ finite.len-insert nat_cmp_total s b tt ∙ ap (λ n. cond (has s b) n (n + 1)) (sym (count-len s))

count-there : (s : Bits) (b : ℕ) → has s b ≡ false → count (with_bit s b) ≡ count s + 1
count-there s b out = count-with_bit s b ∙ cond-false (has s b) (count s) (count s + 1) out

-- the set with the bits of a list added
abbrev adds : Bits → List ℕ → Bits
adds s [] = s
adds s (b ∷ bs) = with_bit (adds s bs) b

or_false : (a : Bool) → a ≡ (a || false)
or_false true = refl
or_false false = refl

or_swap : (a b c : Bool) → (a || (b || c)) ≡ (b || (a || c))
or_swap true true c = refl
or_swap true false c = refl
or_swap false b c = refl

has-adds : (s : Bits) (bs : List ℕ) (q : ℕ) → has (adds s bs) q ≡ (has s q || list_any (λ b. q == b) bs)
has-adds s [] q = or_false (has s q)
has-adds s (b ∷ bs) q = has-with_bit (adds s bs) b q ∙ ap (λ x. (q == b) || x) (has-adds s bs q) ∙ or_swap (q == b) (has s q) (list_any (λ c. q == c) bs)

join-adds : (s t : Bits) → join s t ≡ adds s (rising t)
join-adds s t = same_bits _ _ (λ q. has-join s t q ∙ ap (λ x. has s q || x) (has-rising t q) ∙ sym (has-adds s (rising t) q))

adds_cases : (s : Bits) (bs : List ℕ) → (adds s bs ≡ s) ⊎ (count s < count (adds s bs))
adds_cases s [] = inl refl
adds_cases s (b ∷ bs) = elim (cases_Bool (has (adds s bs) b)) [
  | inl there ↦
      let same : with_bit (adds s bs) b ≡ adds s bs = with_bit-there (adds s bs) b there in
      elim (adds_cases s bs) [ inl e ↦ inl (same ∙ e) | inr l ↦ inr (omega (arith, l, ap (λ t. length (rising t)) same)) ]
  | inr out ↦
      let more : count (with_bit (adds s bs) b) ≡ count (adds s bs) + 1 = count-there (adds s bs) b out in
      elim (adds_cases s bs) [ inl e ↦ inr (omega (arith, more, ap (λ t. length (rising t)) e)) | inr l ↦ inr (omega (arith, more, l)) ]
]

-- a set that grew has more bits
pub join_larger : (s t : Bits) → join s t ≢ s → length (rising s) < length (rising (join s t))
join_larger s t apart = elim (adds_cases s (rising t)) [
  | inl e ↦ absurd (apart (join-adds s t ∙ e))
  | inr l ↦ let same : count (join s t) ≡ count (adds s (rising t)) = ap (λ u. length (rising u)) (join-adds s t) in omega (arith, l, same)
]

-- the numbers below n
abbrev below : ℕ → List ℕ
below zero = []
below (suc n) = n ∷ below n

below_has : (n q : ℕ) → q < n → list_any (λ b. q == b) (below n) ≡ true
below_has zero q l = absurd (omega arith)
below_has (suc n) q l = elim (cases_Bool (q == n)) [
  | inl e ↦ or_left (q == n) (list_any (λ b. q == b) (below n)) e
  | inr f ↦ or_right (q == n) (list_any (λ b. q == b) (below n)) (below_has n q (elim (cases_order q n) [ inl e ↦ absurd (true≢false (sym (eq-eqb q n e) ∙ f)) | inr r ↦ elim r [ inl a ↦ a | inr a ↦ omega arith ] ]))
]

count-below : (n : ℕ) → count (adds no_bits (below n)) ≤ n
count-below zero = omega (arith, count-no_bits)
count-below (suc n) = elim (cases_Bool (has (adds no_bits (below n)) n)) [
  | inl there ↦ omega (arith, count-below n, ap (λ t. length (rising t)) (with_bit-there (adds no_bits (below n)) n there))
  | inr out ↦ omega (arith, count-below n, count-there (adds no_bits (below n)) n out)
]

-- a set of bits below n has at most n
pub rising_small : (s : Bits) (n : ℕ) → ((q : ℕ) → has s q ≡ true → q < n) → length (rising s) ≤ n
rising_small s n small =
    let same : adds s (below n) ≡ adds no_bits (below n) = same_bits _ _ (λ q. has-adds s (below n) q ∙ absorbed q (has s q) refl ∙ sym (has-adds no_bits (below n) q ∙ ap (λ b. b || list_any (λ b. q == b) (below n)) (has-no_bits q))) in
    let most = ap (λ t. length (rising t)) same in
    elim (adds_cases s (below n)) [
      | inl e ↦ omega (arith, most, ap (λ t. length (rising t)) e, count-below n)
      | inr l ↦ omega (arith, most, l, count-below n)
    ]
  where
    absorbed : (q : ℕ) (b : Bool) → has s q ≡ b → (b || list_any (λ b. q == b) (below n)) ≡ list_any (λ b. q == b) (below n)
    absorbed q true e = sym (below_has n q (small q e))
    absorbed q false e = refl
