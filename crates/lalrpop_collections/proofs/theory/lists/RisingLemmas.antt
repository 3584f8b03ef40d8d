-- Ascending lists that are filtered.
use Rattle.std.proofs.Common.{◌≡◌, ◌≢◌, ℕ, zero, suc, ◌<◌, ◌≤◌, ⊎_elim, ◌==◌, Bool, true, false, ◌||◌, ◌&&◌, List, [], ◌∷◌, length, slice_index, refl, sym, ◌∙◌, ap, arith, eqb-true}
use Rattle.std.specs.Prelude.{cond}
use Rattle.std.specs.List.{list_any, filter}
use Rattle.std.proofs.lemmas.Bool.{cases_Bool}
use Rattle.lalrpop_collections.specs.Words.{Bits, has, rising, bits_of, IsRising, has-bits_of, has-rising}

-- the list ascends strictly, and its numbers are not below a first one
abbrev pub RisesFrom : ℕ → List ℕ → Type 0
RisesFrom b [] = Unit {0}
RisesFrom b (x ∷ xs) = (b ≤ x) × RisesFrom (suc x) xs

pub rises_above : (b : ℕ) (xs : List ℕ) → RisesFrom b xs → (k : ℕ) → k < length xs → b ≤ slice_index xs k
rises_above b [] up k l = absurd (omega arith)
rises_above b (x ∷ xs) up zero l = up.0
rises_above b (x ∷ xs) up (suc k) l = let more : suc x ≤ slice_index xs k = rises_above (suc x) xs up.1 k (omega arith) in omega (arith, up.0)

pub is_rising : (b : ℕ) (xs : List ℕ) → RisesFrom b xs → IsRising xs
is_rising b [] up i j l w = absurd (omega arith)
is_rising b (x ∷ xs) up i zero l w = absurd (omega arith)
is_rising b (x ∷ xs) up zero (suc j) l w = let more : suc x ≤ slice_index xs j = rises_above (suc x) xs up.1 j (omega arith) in omega arith
is_rising b (x ∷ xs) up (suc i) (suc j) l w = is_rising (suc x) xs up.1 i j (omega arith) (omega arith)

rises_lower : (a b : ℕ) (xs : List ℕ) → a ≤ b → RisesFrom b xs → RisesFrom a xs
rises_lower a b [] l up = tt
rises_lower a b (x ∷ xs) l up = (omega (arith, up.0), up.1)

-- the number is in the list
abbrev pub among : ℕ → List ℕ → Bool
among q xs = list_any (λ b. q == b) xs

-- the elements that pass a test ascend as the whole list does
pub filter_rises : (p : ℕ → Bool) (b : ℕ) (xs : List ℕ) → RisesFrom b xs → RisesFrom b (filter p xs)
filter_rises p b [] up = tt
filter_rises p b (x ∷ xs) up = elim (p x) as (λ t. RisesFrom b (cond t (x ∷ filter p xs) (filter p xs))) [
  | true ↦ (up.0, filter_rises p (suc x) xs up.1)
  | false ↦ rises_lower b (suc x) (filter p xs) (omega (arith, up.0)) (filter_rises p (suc x) xs up.1)
]

with_head : (t a m r : Bool) → (a ≡ true → r ≡ t) → cond t (a || (m && r)) (m && r) ≡ ((a || m) && r)
with_head true true m r same = rw (same refl) (absorbed m)
  where
    absorbed : (m : Bool) → true ≡ true
    absorbed m = refl
with_head true false m r same = refl
with_head false true m r same = rw (same refl) (nothing m)
  where
    nothing : (m : Bool) → (m && false) ≡ false
    nothing true = refl
    nothing false = refl
with_head false false m r same = refl

filter_head : (q x : ℕ) (p : ℕ → Bool) (rest : List ℕ) (t : Bool) → p x ≡ t → (more : Bool) → among q rest ≡ (more && p q) →
    among q (cond t (x ∷ rest) rest) ≡ (((q == x) || more) && p q)
filter_head q x p rest true is more each = ap (λ u. (q == x) || u) each ∙ with_head true (q == x) more (p q) (λ e. ap p (eqb-true q x e) ∙ is)
filter_head q x p rest false is more each = each ∙ with_head false (q == x) more (p q) (λ e. ap p (eqb-true q x e) ∙ is)

pub filter_any : (q : ℕ) (p : ℕ → Bool) (xs : List ℕ) → among q (filter p xs) ≡ (among q xs && p q)
filter_any q p [] = refl
filter_any q p (x ∷ xs) = filter_head q x p (filter p xs) (p x) refl (among q xs) (filter_any q p xs)

-- a number that is at no place is not among the list
pub not_among : (q : ℕ) (xs : List ℕ) → ((k : ℕ) → k < length xs → slice_index xs k ≢ q) → among q xs ≡ false
not_among q [] out = refl
not_among q (x ∷ xs) out =
    let head : (q == x) ≡ false = ⊎_elim (λ t. absurd (out 0 (omega arith) (sym (eqb-true q x t)))) (λ f. f) (cases_Bool (q == x)) in
    ap (λ t. t || among q xs) head ∙ not_among q xs (λ k l. out (suc k) (omega arith))

-- a list that ascends from a number on has no number below it
pub below_start : (b q : ℕ) (xs : List ℕ) → RisesFrom b xs → q < b → among q xs ≡ false
below_start b q xs up l = not_among q xs (λ k w e. absurd (omega (arith, rises_above b xs up k w)))

pub filter_bits : (p : ℕ → Bool) (s : Bits) (q : ℕ) → has (bits_of (filter p (rising s))) q ≡ (has s q && p q)
filter_bits p s q = has-bits_of (filter p (rising s)) q ∙ filter_any q p (rising s) ∙ ap (λ b. b && p q) (sym (has-rising s q))
