-- Lists without repeats, one element at a time.
use Rattle.std.proofs.Common.{List, [], arith, inl, inr, refl, subst, suc, sym, zero, ◌++◌, ◌∷◌}
use Rattle.std.specs.Prelude.{Contains}
use Rattle.std.proofs.lemmas.List.Elements.{Contains-append_cases}
use Rattle.lalrpop_collections.specs.Words.{AllDiffer}
use Rattle.lalrpop_collections.proofs.theory.lists.Lists.{contains_head, contains_place, contains_tail, place_contains, same_some, some≢none}

-- no element is repeated, one element at a time
abbrev pub Apart : {A : Type 0} → List A → Type 0
Apart [] = Unit {0}
Apart (x ∷ xs) = (Contains xs x → ⊥) × Apart xs

pub apart_from : {A : Type 0} (xs : List A) → AllDiffer xs → Apart xs
apart_from [] h = tt
apart_from (x ∷ xs) h = (
  λ c. let at = contains_place xs x c in h zero (suc at.0) x (omega arith) refl at.1,
  apart_from xs (λ i j y l e f. h (suc i) (suc j) y (omega arith) e f),
)

pub apart_to : {A : Type 0} (xs : List A) → Apart xs → AllDiffer xs
apart_to [] h i j x l e f = some≢none (sym e)
apart_to (y ∷ xs) h i zero x l e f = omega arith
apart_to {A} (y ∷ xs) h zero (suc j) x l e f = let P : A → Type 0 = Contains xs in h.0 (subst P (sym (same_some e)) (place_contains xs j x f))
apart_to (y ∷ xs) h (suc i) (suc j) x l e f = apart_to xs h.1 i j x (omega arith) e f

pub Apart-append : {A : Type 0} (xs ys : List A) → Apart xs → Apart ys → ((x : A) → Contains xs x → Contains ys x → ⊥) → Apart (xs ++ ys)
Apart-append [] ys h k d = k
Apart-append (x ∷ xs) ys h k d = (
  λ c. elim (Contains-append_cases xs ys x c) [ inl a ↦ h.0 a | inr b ↦ d x (contains_head x xs) b ],
  Apart-append xs ys h.1 k (λ y a b. d y (contains_tail x xs y a) b),
)
