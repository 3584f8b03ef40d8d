-- The edges of a state by numbers, with one more kernel, which gets one number.
use Rattle.std.proofs.Common.{◌≡◌, ◌⊎◌, ℕ, inl, inr, List, [], ◌∷◌, ◌++◌, map, sym, ◌∙◌, ap, subst, Some, option_map, append_assoc}
use Rattle.std.specs.Prelude.{Contains, slice_get}
use Rattle.std.proofs.lemmas.List.{map-append}
use Rattle.std.proofs.lemmas.List.Elements.{Contains-append_right, Contains-push_cases}
use Rattle.std.proofs.lemmas.Option.{slice_get-map}
use Rattle.lalrpop_base.specs.Words.{AddsOnce, AllDiffer, Dotted, Ascend, AreAllNumbered, AreNumbered, NumberedGroups, items_by}
use Rattle.lalrpop_construction.proofs.Types.{Nil}
use Rattle.lalrpop_numbers.specs.declared.numbers.numbered.Numbered.{Numbered}
use Rattle.lalrpop_collections.proofs.theory.lists.Members.{contains-cons, contains_head, Contains-none}
use Rattle.lalrpop_construction.proofs.theory.numbers.Numbers.{lists_differ}

module _ {L : Type 0} (items : List (Dotted Nil)) where
  -- a kernel by number was added, or was there; the same is true of its items
  pub either_by : (old new : List (List (Numbered L))) (kernel : List (Numbered L)) → (new ≡ old) ⊎ (new ≡ old ++ kernel ∷ []) → (map (items_by items) new ≡ map (items_by items) old) ⊎ (map (items_by items) new ≡ map (items_by items) old ++ items_by items kernel ∷ [])
  either_by old new kernel either = elim either [
    | inl same ↦ inl (ap (map (items_by items)) same)
    | inr more ↦ inr (ap (map (items_by items)) more ∙ map-append (items_by items) old (kernel ∷ []))
  ]

  pub all_known : (old new : List (List (Numbered L))) (kernel : List (Numbered L)) → AreAllNumbered items old → AreNumbered items kernel → (new ≡ old) ⊎ (new ≡ old ++ kernel ∷ []) → AreAllNumbered items new
  all_known old new kernel all here either list c = elim either [
    | inl same ↦ all list (subst (λ (ks : List (List (Numbered L))). Contains ks list) same c)
    | inr more ↦ elim (Contains-push_cases old kernel list (subst (λ (ks : List (List (Numbered L))). Contains ks list) more c)) [
      | inl had ↦ all list had
      | inr same ↦ subst (AreNumbered items) same here
    ]
  ]

  -- the kernel with a number, as items
  pub numbered_by : (list : List (List (Numbered L))) (k : ℕ) (kernel : List (Numbered L)) → slice_get list k ≡ Some kernel → slice_get (map (items_by items) list) k ≡ Some (items_by items kernel)
  numbered_by list k kernel at = slice_get-map (items_by items) list k ∙ ap (λ o. option_map (items_by items) o) at

  pub differ_by : Ascend items → (list : List (List (Numbered L))) → AreAllNumbered items list → AllDiffer list → AllDiffer (map (items_by items) list)
  differ_by ascend list all differ = lists_differ items ascend list all differ

-- ---- the next group of those that are left
module _ {L : Type 0} (groups first left rest : NumberedGroups L) (group : ℕ × List (Numbered L)) (split : first ++ left ≡ groups) (next : left ≡ group ∷ rest) where
  pub taken : (first ++ group ∷ []) ++ rest ≡ groups
  taken = append_assoc first (group ∷ []) rest ∙ ap (λ (xs : NumberedGroups L). first ++ xs) (sym next) ∙ split

  pub taken_among : Contains groups group
  taken_among = subst (λ (gs : NumberedGroups L). Contains gs group) (ap (λ (xs : NumberedGroups L). first ++ xs) (sym next) ∙ split) (Contains-append_right first (group ∷ rest) group (contains_head group rest))

-- the first kernel
pub first_numbered : {L : Type 0} (kernel : List (Numbered L)) (old new : List (List (Numbered L))) → old ≡ [] → AddsOnce old new kernel → new ≡ kernel ∷ []
first_numbered {L} kernel old new empty adds = adds.fresh (λ c. Contains-none kernel (subst (λ (ks : List (List (Numbered L))). Contains ks kernel) empty c)) ∙ ap (λ ks. ks ++ kernel ∷ []) empty

pub only_numbered : {L : Type 0} (items : List (Dotted Nil)) (kernel : List (Numbered L)) (list : List (List (Numbered L))) → list ≡ kernel ∷ [] → AreNumbered items kernel → AreAllNumbered items list
only_numbered {L} items kernel list is known k c = elim (contains-cons kernel [] k (subst (λ (ks : List (List (Numbered L))). Contains ks k) is c)) [ inl same ↦ subst (AreNumbered items) same known | inr none ↦ absurd (Contains-none k none) ]
