-- How often a text is in a list.
use Rattle.std.proofs.Common.{◌≡◌, ℕ, ◌+◌, ◌<◌, suc, zero, Bool, true, cond, List, [], ◌∷◌, slice_get, Some, refl, ap, ◌∙◌, arith}
use Rattle.std.specs.List.{count_by}
use Rattle.std.proofs.lemmas.List.Sums.{sum_by-cons}

module _ {X : Type 0} (p : X → Bool) where
  -- one item more
  counted : (x : X) (xs : List X) (b : Bool) → p x ≡ b → count_by p (x ∷ xs) ≡ cond b 1 0 + count_by p xs
  counted x xs b e = sum_by-cons (λ y. cond (p y) 1 0) x xs ∙ ap (λ c. cond c 1 0 + count_by p xs) e

  -- an item that passes is counted
  pub has_one : (xs : List X) (i : ℕ) (x : X) → slice_get xs i ≡ Some x → p x ≡ true → 0 < count_by p xs
  has_one [] i x at passes = cc
  has_one (y ∷ xs) zero x at passes =
      let same : y ≡ x = cc in
      omega (arith, counted y xs true (ap p same ∙ passes))
  has_one (y ∷ xs) (suc i) x at passes =
      let more : 0 < count_by p xs = has_one xs i x at passes in
      omega (arith, more, counted y xs (p y) refl)

  -- an item that passes is the only one if one is counted
  pub only_one : (xs : List X) (i j : ℕ) (x y : X) → count_by p xs ≡ 1 → slice_get xs i ≡ Some x → p x ≡ true → slice_get xs j ≡ Some y → p y ≡ true → i ≡ j
  only_one [] i j x y one at_x px at_y py = cc
  only_one (z ∷ xs) zero zero x y one at_x px at_y py = refl
  only_one (z ∷ xs) zero (suc j) x y one at_x px at_y py =
      let same : z ≡ x = cc in
      let some : 0 < count_by p xs = has_one xs j y at_y py in
      absurd (omega (arith, some, one, counted z xs true (ap p same ∙ px)))
  only_one (z ∷ xs) (suc i) zero x y one at_x px at_y py =
      let same : z ≡ y = cc in
      let some : 0 < count_by p xs = has_one xs i x at_x px in
      absurd (omega (arith, some, one, counted z xs true (ap p same ∙ py)))
  only_one (z ∷ xs) (suc i) (suc j) x y one at_x px at_y py =
      let some : 0 < count_by p xs = has_one xs i x at_x px in
      let rest : count_by p xs ≡ 1 = omega (arith, some, one, counted z xs (p z) refl) in
      ap suc (only_one xs i j x y rest at_x px at_y py)
