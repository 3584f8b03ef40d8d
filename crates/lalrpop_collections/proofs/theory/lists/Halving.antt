-- A binary search in an ordered list finds each value of the list.
use Rattle.std.proofs.Common.{◌≡◌, inl, inr, ℕ, ◌<◌, ◌≤◌, List, length, get_or, refl, sym, ap, subst, arith, ◌∙◌}
use Rattle.std.specs.Prelude.{slice_get, Some, Contains}
use Rattle.std.specs.declared.cmp.Ordering.{Ordering}
use Rattle.std.specs.declared.cmp.Ordering.TheVariants.{Less, Equal, Greater}
use Rattle.std.specs.Ordering.{ordering_index, ordering_reverse}
use Rattle.std.specs.Cmp.{IsTotalOrder}
use Rattle.std.specs.List.{HoldsAt}
use Rattle.std.specs.List.Sorted.{IsNonDecreasingBy, IsPartitionPoint, IsStrictlySortedBy}
use Rattle.std.proofs.lemmas.Bool.{cases_lt}
use Rattle.std.proofs.lemmas.Map.Keys.{Less-from_sorted}
use Rattle.std.proofs.lemmas.Map.Lookups.{CmpEqualImpliesEq}
use Rattle.lalrpop_collections.proofs.theory.lists.Members.{less-apart}
use Rattle.lalrpop_collections.proofs.theory.lists.Places.{places_apart, slice_get_at}

at_most_two : (o : Ordering) → ordering_index o ≤ 2
at_most_two Less = omega arith
at_most_two Equal = omega arith
at_most_two Greater = omega arith

module _ {K : Type 0} (cmp : K → K → Ordering) (exact : CmpEqualImpliesEq cmp) (total : IsTotalOrder cmp) (xs : List K) (sorted : IsStrictlySortedBy cmp xs) (x : K) where
  pub halving_found : (k : ℕ) → k < length xs → HoldsAt (λ y. cmp y x ≡ Equal) xs k → slice_get xs k ≡ Some x
  halving_found k l h = slice_get_at xs k x l (sym (exact (get_or xs k x) x (h x)))

  rises_at : (a b : K) (o : Ordering) → cmp b x ≡ o → cmp a b ≡ Less → ordering_index (cmp a x) ≤ ordering_index o
  rises_at a b Less e less = let f = ap ordering_index (total.trans a b x less e) in omega arith
  rises_at a b Equal e less =
      let before : cmp a x ≡ Less = subst (λ (z : K). cmp a z ≡ Less) (exact b x e) less in
      let f = ap ordering_index before in
      omega arith
  rises_at a b Greater e less = at_most_two (cmp a x)

  rises : IsNonDecreasingBy (λ (y : K). ordering_index (cmp y x)) xs
  rises i j d l m = elim (places_apart i j) [
    | inl less ↦ rises_at (get_or xs i d) (get_or xs j d) (cmp (get_or xs j d) x) refl (Less-from_sorted cmp xs i j d sorted less m)
    | inr other ↦ elim other [
      | inl greater ↦ absurd (omega arith)
      | inr same ↦ let e = ap (λ (n : ℕ). ordering_index (cmp (get_or xs n d) x)) same in omega arith
    ]
  ]

  pub halving_none : (i : ℕ) → (IsNonDecreasingBy (λ (y : K). ordering_index (cmp y x)) xs → IsPartitionPoint (λ (y : K). cmp y x ≡ Less) (λ (y : K). cmp y x ≡ Greater) xs i) → ¬ Contains xs x
  halving_none i parts c =
      let p = parts rises in
      elim (cases_lt c.0 i) [
        | inl before ↦
            let less : cmp x x ≡ Less = subst (λ (z : K). cmp z x ≡ Less) c.2 (p.0 c.0 x (omega arith) before) in
            less-apart cmp total x x less refl
        | inr behind ↦
            let greater : cmp x x ≡ Greater = subst (λ (z : K). cmp z x ≡ Greater) c.2 (p.1 c.0 x behind c.1) in
            let turned : Greater ≡ Less = sym greater ∙ total.antisymm x x ∙ ap ordering_reverse greater in
            cc
      ]
