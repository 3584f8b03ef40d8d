-- Two related lists of one length, and both with one more value.
use Rattle.std.proofs.Common.{◌≡◌, ℕ, zero, suc, List, [], ◌∷◌, refl, subst, Some, ◌∙◌, ◌⊎◌, inl, inr, ◌+◌, ◌++◌, length, length-append, sym, ap, arith}
use Rattle.std.specs.Prelude.{slice_get}
use Rattle.std.specs.List.{AllZip}
use Rattle.lalrpop_collections.proofs.theory.lists.Places.{same_some, push_cases}
use Rattle.std.proofs.lemmas.Option.{slice_get_within}

-- the pair at a place
pub zip_at : {A B : Type 0} (R : A → B → Type 0) (xs : List A) (ys : List B) → AllZip R xs ys → (n : ℕ) (x : A) (y : B) → slice_get xs n ≡ Some x → slice_get ys n ≡ Some y → R x y
zip_at R [] ys h n x y at_x at_y = cc
zip_at R (a ∷ xs) [] h n x y at_x at_y = cc
zip_at R (a ∷ xs) (b ∷ ys) h zero x y at_x at_y = subst (λ u. R u y) (same_some a x at_x) (subst (R a) (same_some b y at_y) h.0)
zip_at R (a ∷ xs) (b ∷ ys) h (suc n) x y at_x at_y = zip_at R xs ys h.1 n x y at_x at_y

-- each value of the second list is related to a value of the first
pub zip_old : {A B : Type 0} (R : A → B → Type 0) (xs : List A) (ys : List B) → AllZip R xs ys → (n : ℕ) (y : B) → slice_get ys n ≡ Some y → (x : A) × (slice_get xs n ≡ Some x) × R x y
zip_old R [] [] h n y at = cc
zip_old R [] (b ∷ ys) h n y at = absurd h
zip_old R (a ∷ xs) [] h n y at = cc
zip_old R (a ∷ xs) (b ∷ ys) h zero y at = (a, refl, subst (R a) (same_some b y at) h.0)
zip_old R (a ∷ xs) (b ∷ ys) h (suc n) y at = zip_old R xs ys h.1 n y at

-- ---- one more value in each list
module _ {X Y : Type 0} (xs : List X) (x : X) (ys : List Y) (y : Y) (same : length ys ≡ length xs) where
  pub push_counted : length (ys ++ y ∷ []) ≡ length (xs ++ x ∷ [])
  push_counted = length-append ys (y ∷ []) ∙ ap (λ n. n + 1) same ∙ sym (length-append xs (x ∷ []))

  -- two values at one place were there before, or both were added
  pub push_both : (k : ℕ) (a : X) (b : Y) → slice_get (xs ++ x ∷ []) k ≡ Some a → slice_get (ys ++ y ∷ []) k ≡ Some b → ((slice_get xs k ≡ Some a) × (slice_get ys k ≡ Some b)) ⊎ ((k ≡ length xs) × (x ≡ a) × (y ≡ b))
  push_both k a b at_a at_b = elim (push_cases xs x k a at_a) [
    | inl was ↦ elim (push_cases ys y k b at_b) [
      | inl there ↦ inl (was, there)
      | inr end ↦ absurd (let l = slice_get_within xs k a was in let e = end.0 in omega arith)
    ]
    | inr new ↦ elim (push_cases ys y k b at_b) [
      | inl there ↦ absurd (let l = slice_get_within ys k b there in let e = new.0 in omega arith)
      | inr end ↦ inr (new.0, new.1, end.1)
    ]
  ]
