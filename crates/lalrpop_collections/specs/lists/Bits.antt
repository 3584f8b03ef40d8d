-- Finite sets of bits. They are maps from bits to nothing, which std keeps in order, so that sets
-- with equal members are equal.
use Rattle.std.specs.Prelude.{◌≡◌, ◌≢◌, ℕ, suc, ◌<◌, ◌==◌, Bool, true, false, cond, ◌||◌, List, [], ◌∷◌, length, slice_index, is_some, Option, Some, None, IsTrue, refl}
use Rattle.std.proofs.Common.{sym, ◌∙◌, ap, arith, eq-eqb, eqb-true, ⊎_elim}
use Rattle.std.proofs.lemmas.Bool.{or_cases}
use Rattle.std.proofs.lemmas.List.Folds.{list_any_at}
use mathlib.Core.Bool.{true≢false}
use Rattle.std.specs.Ordering.{nat_cmp, on, eq_by_cmp}
use Rattle.std.specs.Cmp.{nat_cmp_total, unsigned_tied}
use Rattle.std.specs.FinMap as finite
use Rattle.std.specs.List.{list_any}
use lib.Pointwise.{pointwise}
use Rattle.lalrpop_collections.specs.lists.Exact.{Exactly, text_exact}

-- a finite set of bits
abbrev pub Bits : Type 0
Bits = finite.FinMap nat_cmp (Unit {0})

-- whether the bit is in the set
abbrev pub has : Bits → ℕ → Bool
has s q = finite.contains_key s q

-- the bits of the set, ascending
abbrev pub rising : Bits → List ℕ
rising s = finite.keys s

-- the set without bits
abbrev pub no_bits : Bits
no_bits = finite.empty

-- the set with one bit added
abbrev pub with_bit : Bits → ℕ → Bits
with_bit s b = finite.insert s b tt

-- the bits of a list
abbrev pub bits_of : List ℕ → Bits
bits_of [] = no_bits
bits_of (b ∷ bs) = with_bit (bits_of bs) b

-- the set with the bits of a list added
abbrev with_bits : Bits → List ℕ → Bits
with_bits s [] = s
with_bits s (b ∷ bs) = with_bit (with_bits s bs) b

-- the union of two sets
pub join : Bits → Bits → Bits
join s t = with_bits s (rising t)

-- each number is below all later ones: the list is strictly ascending
abbrev pub IsRising : List ℕ → Type 0
IsRising xs = (i j : ℕ) → i < j → j < length xs → slice_index xs i < slice_index xs j

-- the empty set has no bit
pub has-no_bits : (q : ℕ) → has no_bits q ≡ false
has-no_bits q = ap is_some (finite.get-empty nat_cmp q)

Some_or : (b : Bool) (x : Option (Unit {0})) → is_some (cond b (Some tt) x) ≡ (b || is_some x)
Some_or true x = refl
Some_or false x = refl

-- a set with one bit added has that bit and those of the set
pub has-with_bit : (s : Bits) (b q : ℕ) → has (with_bit s b) q ≡ ((q == b) || has s q)
has-with_bit s b q = ap is_some (finite.get-insert nat_cmp_total s b tt q) ∙ Some_or _ _ ∙ ap (λ x. x || has s q) (unsigned_tied q b)

or_false : (a : Bool) → a ≡ (a || false)
or_false true = refl
or_false false = refl

or_swap : (a b c : Bool) → (a || (b || c)) ≡ (b || (a || c))
or_swap true true c = refl
or_swap true false c = refl
or_swap false b c = refl

-- a set with the bits of a list added has these bits and those of the set
has-with_bits : (s : Bits) (bs : List ℕ) (q : ℕ) → has (with_bits s bs) q ≡ (has s q || list_any (λ b. q == b) bs)
has-with_bits s [] q = or_false (has s q)
has-with_bits s (b ∷ bs) q = has-with_bit (with_bits s bs) b q ∙ ap (λ x. (q == b) || x) (has-with_bits s bs q) ∙ or_swap (q == b) (has s q) (list_any (λ c. q == c) bs)

-- the set of a list has the bits of the list
pub has-bits_of : (bs : List ℕ) (q : ℕ) → has (bits_of bs) q ≡ list_any (λ b. q == b) bs
has-bits_of [] q = has-no_bits q
has-bits_of (b ∷ bs) q = has-with_bit (bits_of bs) b q ∙ ap (λ x. (q == b) || x) (has-bits_of bs q)

tied_any : (q : ℕ) (bs : List ℕ) → list_any (eq_by_cmp nat_cmp q) bs ≡ list_any (λ b. q == b) bs
tied_any q [] = refl
tied_any q (b ∷ bs) = ap (λ x. x || list_any (eq_by_cmp nat_cmp q) bs) (unsigned_tied q b) ∙ ap (λ x. (q == b) || x) (tied_any q bs)

-- a set has the bits of its ascending list
pub has-rising : (s : Bits) (q : ℕ) → has s q ≡ list_any (λ b. q == b) (rising s)
has-rising s q = finite.contains_key-keys s q ∙ tied_any q (rising s)

-- the union has the bits of both sets
pub has-join : (s t : Bits) (q : ℕ) → has (join s t) q ≡ (has s q || has t q)
unfolding join
has-join s t q = has-with_bits s (rising t) q ∙ ap (λ x. has s q || x) (sym (has-rising t q))

same_unit : (x y : Option (Unit {0})) → is_some x ≡ is_some y → x ≡ y
same_unit None None e = refl
same_unit None (Some u) e = cc
same_unit (Some u) None e = cc
same_unit (Some u) (Some v) e = refl

-- sets with the same members are equal
pub same_bits : (s t : Bits) → ((q : ℕ) → has s q ≡ has t q) → s ≡ t
same_bits s t e = finite.same_map nat_cmp_total finite.nat_cmp-IsAntisymmetric s t (λ q. same_unit _ _ (e q))

-- sets with the same list of bits are equal
pub same_rising : (s t : Bits) → rising s ≡ rising t → s ≡ t
same_rising s t e = same_bits s t (λ q. has-rising s q ∙ ap (λ bs. list_any (λ b. q == b) bs) e ∙ sym (has-rising t q))

-- equality of the ascending lists is an exact equality of sets
pub bits_exact : Exactly (on rising (pointwise ◌==◌))
bits_exact s t h = same_rising s t (text_exact (rising s) (rising t) h)

-- the union of two empty sets is empty
pub join_self : no_bits ≡ join no_bits no_bits
join_self = same_bits _ _ (λ q. grind (arith, has-join, has-no_bits))

-- a second join with the same set changes nothing
pub join_twice : (s t : Bits) → join (join s t) t ≡ join s t
join_twice s t = same_bits _ _ (λ q. grind (arith, has-join))

-- the rules by which it is decided whether a set has a bit
pub ruleset bit_laws = (has-no_bits, has-with_bit, has-join)

-- adding a bit that was not in the set makes another set
pub new_bit : (s : Bits) (b : ℕ) → has s b ≡ false → with_bit s b ≢ s
new_bit s b out same = let there : has (with_bit s b) b ≡ true = has-with_bit s b b ∙ ap (λ t. t || has s b) (eq-eqb b b refl) in cc (ap (λ t. has t b) same)

-- the set has the bit at each place of its list
pub has-at : (s : Bits) (k : ℕ) → k < length (rising s) → has s (slice_index (rising s) k) ≡ true
has-at s k l = has-rising s _ ∙ list_any_at (λ b. slice_index (rising s) k == b) (rising s) k 0 l (eq-eqb (slice_index (rising s) k) (slice_index (rising s) k) refl)

place_in : (xs : List ℕ) (b : ℕ) → list_any (λ x. b == x) xs ≡ true → (k : ℕ) × (k < length xs) × (slice_index xs k ≡ b)
place_in [] b found = absurd (true≢false (sym found))
place_in (x ∷ xs) b found =
    ⊎_elim (λ here. (0, omega arith, sym (eqb-true b x here))) (λ later. let rest = place_in xs b later in (suc rest.0, omega arith, rest.2)) (or_cases (b == x) (list_any (λ y. b == y) xs) found)

-- a bit of the set is at a place of its list
pub has-place : (s : Bits) (b : ℕ) → IsTrue (has s b) → (k : ℕ) × (k < length (rising s)) × (slice_index (rising s) k ≡ b)
has-place s b there = place_in (rising s) b (sym (has-rising s b) ∙ there)
