-- The places of the dotted productions of one production, in an ascending list: they are next to
-- each other.
use Rattle.std.proofs.Common.{◌≡◌, ◌∙◌, inl, inr, ℕ, zero, suc, ◌+◌, ◌-◌, ◌<◌, ◌≤◌, List, length, sym, ap, subst, arith}
use Rattle.std.specs.Prelude.{slice_get, Some}
use Rattle.std.specs.Ordering.{ordering_reverse}
use Rattle.std.specs.declared.cmp.Ordering.TheVariants.{Less, Greater}
use Rattle.lalrpop_states.specs.Words.{Dotted, Ascend, Precedes, production_order, with_dot}
use Rattle.lalrpop_grammar.specs.Words.{Rules}
use Rattle.lalrpop_numbers.specs.Words.{AreItemsOf, MovesToNext}
use Rattle.lalrpop_numbers.proofs.Types.{Nil, Production}
use Rattle.lalrpop_states.proofs.theory.grammars.AscendingItems.{less_apart, less_asymmetric, production_total}
use Rattle.lalrpop_collections.proofs.theory.lists.Members.{place}
use Rattle.lalrpop_states.proofs.theory.grammars.AscendingItems.{items_differ}
use Rattle.lalrpop_collections.proofs.theory.lists.Places.{contains_at, one_place, places_apart, same_some}

-- an item is before no item of a lesser production
before_no_lesser : (a b : Dotted Nil) → Precedes a b → production_order b.production a.production ≡ Less → ⊥
before_no_lesser a b (inl before) less = less_asymmetric a.production b.production before less
before_no_lesser a b (inr same) less = less_apart b.production a.production less (sym same.0)

-- ---- the side of an item on which the items of a production are
module _ (items : List (Dotted Nil)) (ascend : Ascend items) (middle : ℕ) (met : Dotted Nil) (there : slice_get items middle ≡ Some met) (p : Production) where
  of_one : (k : ℕ) (i : Dotted Nil) → slice_get items k ≡ Some i → i.production ≡ p → middle ≡ k → met.production ≡ p
  of_one k i at is e = ap (λ (j : Dotted Nil). j.production) (same_some met i (sym there ∙ ap (slice_get items) e ∙ at)) ∙ is

  -- an item of production p is after the given item, if the production of the latter is less
  pub stands_behind : production_order met.production p ≡ Less → (k : ℕ) (i : Dotted Nil) → slice_get items k ≡ Some i → i.production ≡ p → middle < k
  stands_behind less k i at is = elim (places_apart middle k) [
    | inl behind ↦ behind
    | inr other ↦ elim other [
      | inl before ↦ absurd (before_no_lesser i met (ascend k middle i met before at there) (subst (λ (q : Production). production_order met.production q ≡ Less) (sym is) less))
      | inr same ↦ absurd (less_apart met.production p less (of_one k i at is same))
    ]
  ]

  -- an item of production p is before the given item, if the production of the latter is greater
  pub stands_before : production_order met.production p ≡ Greater → (k : ℕ) (i : Dotted Nil) → slice_get items k ≡ Some i → i.production ≡ p → k < middle
  stands_before greater k i at is =
      let less : production_order p met.production ≡ Less = production_total.antisymm p met.production ∙ ap ordering_reverse greater in
      elim (places_apart middle k) [
        | inl behind ↦ absurd (before_no_lesser met i (ascend middle k met i behind there at) (subst (λ (q : Production). production_order q met.production ≡ Less) (sym is) less))
        | inr other ↦ elim other [
          | inl before ↦ before
          | inr same ↦ absurd (less_apart p met.production less (sym (of_one k i at is same)))
        ]
      ]

-- ---- the dotted productions of one production, one after the other
moves_on : (items : List (Dotted Nil)) → MovesToNext items → (p : Production) (k : ℕ) → slice_get items k ≡ Some (with_dot p 0) → (dot : ℕ) → dot ≤ length p.symbols → slice_get items (k + dot) ≡ Some (with_dot p dot)
moves_on items next p k front zero l = let place : k + 0 ≡ k = omega arith in ap (slice_get items) place ∙ front
moves_on items next p k front (suc dot) l =
    let place : k + dot + 1 ≡ k + suc dot = omega arith in
    let moved : dot + 1 ≡ suc dot = omega arith in
    ap (slice_get items) (sym place)
    ∙ next (k + dot) (with_dot p dot) (moves_on items next p k front dot (omega arith)) (omega arith)
    ∙ ap (λ (n : ℕ). Some (with_dot p n)) moved

module _ (g : Rules) (items : List (Dotted Nil)) (of : AreItemsOf g items) (next : MovesToNext items) (middle : ℕ) (met : Dotted Nil) (there : slice_get items middle ≡ Some met) where
  -- the first of them is as many places before an item as the item has symbols before its dot
  from_front : (k : ℕ) × (k + met.index ≡ middle) × ((dot : ℕ) → dot ≤ length met.production.symbols → slice_get items (k + dot) ≡ Some (with_dot met.production dot))
  from_front =
      let p = met.production in
      let known = of.each met (contains_at items met middle there) in
      let front = place items (with_dot p 0) (of.all p 0 known.0 (omega arith)) in
      let on = moves_on items next p front.0 front.2 in
      (front.0, one_place items (items_differ items of.ascend) (front.0 + met.index) middle met (on met.index known.1) there, on)

  pub dot_within : met.index ≤ middle
  dot_within = let front = from_front in omega (arith, front.1)

  -- the places of two items of one production differ by as much as their dots
  pub stands_beside : (item : Dotted Nil) → met.production ≡ item.production → item.index ≤ length item.production.symbols → slice_get items (middle - met.index + item.index) ≡ Some item
  stands_beside item same l =
      let front = from_front in
      let e : middle - met.index + item.index ≡ front.0 + item.index = omega (arith, front.1) in
      ap (slice_get items) e
      ∙ front.2 item.index (subst (λ (q : Production). item.index ≤ length q.symbols) (sym same) l)
      ∙ ap (λ (q : Production). Some (with_dot q item.index)) same
