-- A strictly ascending list is determined by its members. The proof uses only the asymmetry of the
-- order.
use Rattle.std.proofs.Common.{◌≡◌, ℕ, zero, suc, ◌<◌, inl, inr, List, [], ◌∷◌, sym, subst, refl, ◌∙◌, ap₂, Some, arith}
use Rattle.std.specs.Prelude.{Contains, slice_get}
use Rattle.lalrpop_collections.proofs.theory.lists.Lists.{contains-cons, contains-nil, contains_head, contains_tail, contains_place}

module _ {A : Type 0} (precedes : A → A → Type 0) (asymmetric : (x y : A) → precedes x y → precedes y x → ⊥) where
  -- each element precedes those after it
  abbrev pub Ascends : List A → Type 0
  Ascends xs = (i j : ℕ) (x y : A) → i < j → slice_get xs i ≡ Some x → slice_get xs j ≡ Some y → precedes x y

  -- the tail of an ascending list ascends
  ascends_tail : (x : A) (xs : List A) → Ascends (x ∷ xs) → Ascends xs
  ascends_tail x xs h i j y z l e f = h (suc i) (suc j) y z (omega (arith, l)) e f

  -- the head precedes each other element
  head_precedes : (x : A) (xs : List A) → Ascends (x ∷ xs) → (y : A) → Contains xs y → precedes x y
  head_precedes x xs h y c = let k = contains_place xs y c in h zero (suc k.0) x y (omega arith) refl k.1

  -- two ascending lists with the same members have the same head
  same_head : (x y : A) (xs ys : List A) → Ascends (x ∷ xs) → Ascends (y ∷ ys) → Contains (y ∷ ys) x → Contains (x ∷ xs) y → x ≡ y
  same_head x y xs ys h k c d = elim (contains-cons y ys x c) [
    | inl e ↦ sym e
    | inr i ↦ elim (contains-cons x xs y d) [
      | inl e ↦ e
      | inr j ↦ absurd (asymmetric x y (head_precedes x xs h y j) (head_precedes y ys k x i))
    ]
  ]

  -- two ascending lists with the same members have the same members after the head
  same_tail : (x y : A) (xs ys : List A) → x ≡ y → Ascends (x ∷ xs) → (z : A) → Contains xs z → Contains (y ∷ ys) z → Contains ys z
  same_tail x y xs ys e h z c d = elim (contains-cons y ys z d) [
    | inl f ↦
        let same : precedes z z = subst (λ w. precedes w z) (e ∙ f) (head_precedes x xs h z c) in
        absurd (asymmetric z z same same)
    | inr k ↦ k
  ]

  -- two ascending lists with the same members are equal
  pub ascending_same : (xs ys : List A) → Ascends xs → Ascends ys → ((z : A) → Contains xs z → Contains ys z) → ((z : A) → Contains ys z → Contains xs z) → xs ≡ ys
  ascending_same [] [] h k c d = refl
  ascending_same [] (y ∷ ys) h k c d = absurd (contains-nil (d y (contains_head y ys)))
  ascending_same (x ∷ xs) [] h k c d = absurd (contains-nil (c x (contains_head x xs)))
  ascending_same (x ∷ xs) (y ∷ ys) h k c d =
      let e : x ≡ y = same_head x y xs ys h k (c x (contains_head x xs)) (d y (contains_head y ys)) in
      ap₂ (λ z zs. z ∷ zs) e (ascending_same xs ys (ascends_tail x xs h) (ascends_tail y ys k)
      (λ z i. same_tail x y xs ys e h z i (c z (contains_tail x xs z i)))
      (λ z i. same_tail y x ys xs (sym e) k z i (d z (contains_tail y ys z i))))
