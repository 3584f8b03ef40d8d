-- A filter keeps the elements that pass its test.
use Rattle.std.proofs.Common.{◌≡◌, ◌∙◌, inl, inr, Bool, true, false, cond, filter, List, [], ◌∷◌, refl, sym, ap, subst}
use Rattle.std.specs.Prelude.{Contains}
use Rattle.lalrpop_collections.proofs.theory.lists.Members.{Contains-none, contains_head, contains_tail, contains-cons}

kept_cases : {X : Type 0} (b : Bool) (x : X) (xs : List X) (y : X) → Contains (cond b (x ∷ xs) xs) y → Contains (x ∷ xs) y
kept_cases true x xs y c = c
kept_cases false x xs y c = contains_tail x xs y c

pub of_kept : {X : Type 0} (p : X → Bool) (xs : List X) (y : X) → Contains (filter p xs) y → Contains xs y
of_kept p [] y c = c
of_kept p (x ∷ xs) y c = elim (contains-cons x (filter p xs) y (kept_cases (p x) x (filter p xs) y c)) [
  | inl e ↦ subst (Contains (x ∷ xs)) e (contains_head x xs)
  | inr later ↦ contains_tail x xs y (of_kept p xs y later)
]

-- each element that is kept passes the test
kept_at : {X : Type 0} (p : X → Bool) (x : X) (xs : List X) (y : X) → (Contains xs y → p y ≡ true) → (b : Bool) → p x ≡ b → Contains (cond b (x ∷ xs) xs) y → p y ≡ true
kept_at p x xs y later true e c = elim (contains-cons x xs y c) [ inl here ↦ subst (λ z. p z ≡ true) here e | inr d ↦ later d ]
kept_at p x xs y later false e c = later c

pub kept_holds : {X : Type 0} (p : X → Bool) (xs : List X) (y : X) → Contains (filter p xs) y → p y ≡ true
kept_holds p [] y c = absurd (Contains-none y c)
kept_holds p (x ∷ xs) y c = kept_at p x (filter p xs) y (kept_holds p xs y) (p x) refl c

-- each element that passes the test is kept
kept_later : {X : Type 0} (b : Bool) (x : X) (xs : List X) (y : X) → Contains xs y → Contains (cond b (x ∷ xs) xs) y
kept_later true x xs y c = contains_tail x xs y c
kept_later false x xs y c = c

pub is_kept : {X : Type 0} (p : X → Bool) (xs : List X) (y : X) → p y ≡ true → Contains xs y → Contains (filter p xs) y
is_kept p [] y e c = absurd (Contains-none y c)
is_kept p (x ∷ xs) y e c = elim (contains-cons x xs y c) [
  | inl here ↦ subst (λ (b : Bool). Contains (cond b (x ∷ filter p xs) (filter p xs)) y) (sym (ap p here ∙ e)) (subst (Contains (x ∷ filter p xs)) here (contains_head x (filter p xs)))
  | inr later ↦ kept_later (p x) x (filter p xs) y (is_kept p xs y e later)
]
