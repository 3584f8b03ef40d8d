-- The texts of the first items of a list.
use Rattle.std.proofs.Common.{◌≡◌, ◌<◌, ◌+◌, ℕ, zero, suc, List, [], ◌∷◌, ◌++◌, take, refl, sym, ap, ◌∙◌, arith, add-one}
use Rattle.std.specs.List.{flat_map}

-- the text of the first n items is that of the first item, and then that of the first n - 1 of the
-- rest
pub taken_more : {X : Type 0} (f : X → List ℕ) (n m : ℕ) (rest after : List X) (x : X) → rest ≡ x ∷ after → m + 1 ≡ n →
    flat_map f (take n rest) ≡ f x ++ flat_map f (take m after)
taken_more f n m rest after x e k = ap (λ r. flat_map f (take n r)) e ∙ ap (λ i. flat_map f (take i (x ∷ after))) (sym k ∙ add-one m)

-- if no item is taken or no item is left, the text is empty
pub taken_none : {X : Type 0} (f : X → List ℕ) (n : ℕ) (rest : List X) → (0 < n → rest ≡ []) → flat_map f (take n rest) ≡ []
taken_none f zero rest none = refl
taken_none f (suc n) rest none = ap (λ r. flat_map f (take (suc n) r)) (none (omega arith))
