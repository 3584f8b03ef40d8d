-- A kernel that is inserted last, if `==` is exact: it is added once, and all kernels still differ.
use Rattle.std.proofs.Common.{◌≡◌, ◌∙◌, ◌⊎◌, ◌≤◌, ℕ, ◌+◌, inl, inr, Bool, true, false, List, [], ◌∷◌, ◌++◌, length, length-append, if◌then◌else◌, refl, sym, ap, subst, arith}
use Rattle.std.specs.Prelude.{Contains, slice_get, Some}
use Rattle.std.specs.List.{list_any}
use Rattle.std.proofs.lemmas.List.Folds.{list_any_at}
use Rattle.std.proofs.lemmas.Map.Views.{Contains-from_any}
use mathlib.Core.Bool.{true≢false}
use Rattle.indexmap.specs.IndexSet.{insert_key}
use Rattle.lalrpop_base.specs.Words.{AddsOnce, AllDiffer, Exactly}
use Rattle.lalrpop_collections.proofs.theory.lists.Places.{differ_push}

-- the values before and after an insertion, and the index of an equal value after it
module _ {X : Type 0} (E : X → X → Bool) (exact : Exactly E) (old new : List X) (x : X) (n : ℕ) (keys : new ≡ insert_key E old x) (stored : (k : X) × (slice_get new n ≡ Some k) × (E x k ≡ true)) where
  pub inserted_stands : slice_get new n ≡ Some x
  inserted_stands = stored.1 ∙ ap Some (sym (exact x stored.0 stored.2))

  itself : E x x ≡ true
  itself = ap (E x) (exact x stored.0 stored.2) ∙ stored.2

  chosen : (b : Bool) → list_any (E x) old ≡ b → new ≡ (if b then old else old ++ x ∷ [])
  chosen b e = keys ∙ ap (λ (c : Bool). if c then old else old ++ x ∷ []) e

  -- the value was there and nothing changed, or it was not there and is the last one
  had_or_last : (b : Bool) → list_any (E x) old ≡ b → (Contains old x × (new ≡ old)) ⊎ ((¬ Contains old x) × (new ≡ old ++ x ∷ []))
  had_or_last true e = inl (Contains-from_any exact x old e, chosen true e)
  had_or_last false e = inr (λ c. true≢false (sym (list_any_at (E x) old c.0 x c.1 (ap (E x) c.2 ∙ itself)) ∙ e), chosen false e)

  inserted : (Contains old x × (new ≡ old)) ⊎ ((¬ Contains old x) × (new ≡ old ++ x ∷ []))
  inserted = had_or_last (list_any (E x) old) refl

  pub inserted_once : AddsOnce old new x
  inserted_once = elim inserted [
    | inl had ↦ record { known = λ _. had.1; fresh = λ out. absurd (out had.0) }
    | inr last ↦ record { known = λ c. absurd (last.0 c); fresh = λ _. last.1 }
  ]

  pub inserted_differ : AllDiffer old → AllDiffer new
  inserted_differ differ = elim inserted [
    | inl had ↦ subst AllDiffer (sym had.1) differ
    | inr last ↦ subst AllDiffer (sym last.1) (differ_push old x differ last.0)
  ]

  pub inserted_more : length old ≤ length new
  inserted_more = elim inserted [
    | inl had ↦ let same : length new ≡ length old = ap length had.1 in omega arith
    | inr last ↦ let longer : length new ≡ length old + 1 = ap length last.1 ∙ length-append old (x ∷ []) in omega arith
  ]
