-- One member of a list is of a kind: the list grows by one.
use Rattle.std.proofs.Common.{◌≡◌, ◌⊎◌, inl, inr, List, [], ◌∷◌, ◌++◌, subst}
use Rattle.std.proofs.lemmas.List.Elements.{Contains-append_left, Contains-push_cases, Contains-push}
use Rattle.lalrpop_lanes.specs.Words.{Some_of}
use Rattle.lalrpop_collections.proofs.theory.lists.Members.{Contains-none}

module _ {X : Type 0} (P : X → Type 0) where
  pub some_none : Some_of P [] → ⊥
  some_none h = Contains-none h.0 h.1

  pub some_kept : (xs : List X) (x : X) → Some_of P xs → Some_of P (xs ++ x ∷ [])
  some_kept xs x h = (h.0, Contains-append_left xs (x ∷ []) h.0 h.1, h.2)

  pub some_last : (xs : List X) (x : X) → P x → Some_of P (xs ++ x ∷ [])
  some_last xs x p = (x, Contains-push xs x, p)

  pub some_cases : (xs : List X) (x : X) → Some_of P (xs ++ x ∷ []) → Some_of P xs ⊎ P x
  some_cases xs x h = elim (Contains-push_cases xs x h.0 h.1) [
    | inl c ↦ inl (h.0, c, h.2)
    | inr e ↦ inr (last h.0 e h.2)
  ]
    where
      last : (y : X) → x ≡ y → P y → P x
      last y e p = let is : y ≡ x = cc in subst P is p
