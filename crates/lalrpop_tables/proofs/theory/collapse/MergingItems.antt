-- Items joined place by place.
use Rattle.std.proofs.Common.{◌≡◌, ℕ, zero, suc, ◌<◌, List, [], ◌∷◌, ◌++◌, length, refl, sym, ap, Some, slice_set, arith}
use Rattle.std.specs.Prelude.{slice_get}
use Rattle.lalrpop_base.specs.Words.{Bits, Dotted, joined_item, joined_at, joined_items}
use Rattle.lalrpop_collections.proofs.theory.lists.Places.{same_some}

pub joined_there : (is : List (Dotted Bits)) (n : ℕ) (i j : Dotted Bits) → slice_get is n ≡ Some i → slice_set is n (joined_item i j) ≡ joined_at is n j
joined_there [] n i j at = cc
joined_there (k ∷ is) zero i j at = ap (λ (x : Dotted Bits). joined_item x j ∷ is) (sym (same_some k i at))
joined_there (k ∷ is) (suc n) i j at = ap (λ xs. k ∷ xs) (joined_there is n i j at)

pub joined_past : (is : List (Dotted Bits)) (n : ℕ) (j : Dotted Bits) → (n < length is → ⊥) → joined_at is n j ≡ is
joined_past [] n j out = refl
joined_past (i ∷ is) zero j out = absurd (out (omega arith))
joined_past (i ∷ is) (suc n) j out = ap (λ xs. i ∷ xs) (joined_past is n j (λ l. out (omega arith)))

pub joined_more : (is js : List (Dotted Bits)) (j : Dotted Bits) → joined_items is (js ++ j ∷ []) ≡ joined_at (joined_items is js) (length js) j
joined_more [] [] j = refl
joined_more (i ∷ is) [] j = refl
joined_more [] (k ∷ js) j = refl
joined_more (i ∷ is) (k ∷ js) j = ap (λ xs. joined_item i k ∷ xs) (joined_more is js j)
