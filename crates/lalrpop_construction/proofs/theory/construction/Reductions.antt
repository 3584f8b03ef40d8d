-- The reductions of items: which there are, with which tokens, and in which order.
use Rattle.std.proofs.Common.{◌≡◌, ℕ, inl, inr, Bool, true, false, cond, List, [], ◌∷◌, length, map, refl, sym, ◌∙◌, ap, subst, arith, Some, ◌==◌, eqb-true, eq-eqb}
use Rattle.std.specs.Prelude.{Contains, slice_get}
use Rattle.std.specs.Borrow.{Bor}
use Rattle.std.specs.declared.cmp.Ordering.TheVariants.{Less}
use Rattle.std.proofs.lemmas.Option.{slice_get-map}
use Rattle.lalrpop_base.specs.Words.{Ordered, ReducesInOrder, reduction_of, contents_of, no_contents, Dotted, ReducesFinished, production_order, Precedes, Ascend}
use Rattle.lalrpop_base.specs.Words.{reductions_of, seen_reduction}
use Rattle.lalrpop_grammar.specs.states.States.{Reduction}
use Rattle.lalrpop_construction.proofs.Types.{Production, State, Token}
use Rattle.lalrpop_collections.proofs.theory.lists.Lists.{some_of_map, contains_of_map, contains_map}
use Rattle.lalrpop_grammar.proofs.theory.conflicts.ConflictLists.{ordered-cons, ordered-head, ordered-tail, ordered-nil}
use Rattle.lalrpop_states.specs.states.Items.{dotted_of}
use Rattle.lalrpop_states.proofs.theory.grammars.AscendingItems.{less_apart}
use Rattle.lalrpop_collections.proofs.theory.lists.Members.{Contains-none, contains_head, contains_tail, contains-cons}
use Rattle.lalrpop_construction.proofs.theory.construction.Shifting.{of_dotted}

module _ {L : Type 0} where
  abbrev pub IsFinished : Dotted L → Type 0
  IsFinished i = i.index ≡ length i.production.symbols

  abbrev pub reduced : Dotted L → L × Production
  reduced i = (i.lookahead, i.production)

  -- the reduction is that of a finished item
  pub record IsReducedBy (items : List (Dotted L)) (r : L × Production) : Type 0 where
    pub item : Dotted L
    pub among : Contains items item
    pub finished : IsFinished item
    pub is : reduced item ≡ r

  by_later : (i : Dotted L) (items : List (Dotted L)) (r : L × Production) → IsReducedBy items r → IsReducedBy (i ∷ items) r
  by_later i items r b = record { item = b.item; among = contains_tail i items b.item b.among; finished = b.finished; is = b.is }

  reduced_at : (i : Dotted L) (items : List (Dotted L)) (r : L × Production) (b : Bool) → (i.index == length i.production.symbols) ≡ b → Contains (cond b (reduced i ∷ reductions_of items) (reductions_of items)) r → (Contains (reductions_of items) r → IsReducedBy items r) → IsReducedBy (i ∷ items) r
  reduced_at i items r true e c later = elim (contains-cons (reduced i) (reductions_of items) r c) [
    | inl same ↦ record { item = i; among = contains_head i items; finished = eqb-true i.index (length i.production.symbols) e; is = same }
    | inr more ↦ by_later i items r (later more)
  ]
  reduced_at i items r false e c later = by_later i items r (later c)

  pub reduced_from : (items : List (Dotted L)) (r : L × Production) → Contains (reductions_of items) r → IsReducedBy items r
  reduced_from [] r c = absurd (Contains-none r c)
  reduced_from (i ∷ items) r c = reduced_at i items r (i.index == length i.production.symbols) refl c (reduced_from items r)

  kept_at : (i : Dotted L) (items : List (Dotted L)) (r : L × Production) (b : Bool) → Contains (reductions_of items) r → Contains (cond b (reduced i ∷ reductions_of items) (reductions_of items)) r
  kept_at i items r true c = contains_tail (reduced i) (reductions_of items) r c
  kept_at i items r false c = c

  pub reduced_in : (items : List (Dotted L)) (i : Dotted L) → Contains items i → IsFinished i → Contains (reductions_of items) (reduced i)
  reduced_in [] i c f = absurd (Contains-none i c)
  reduced_in (j ∷ items) i c f = elim (contains-cons j items i c) [
    | inl same ↦
        let at : IsFinished j = subst IsFinished (sym same) f in
        subst (λ (b : Bool). Contains (cond b (reduced j ∷ reductions_of items) (reductions_of items)) (reduced i)) (sym (eq-eqb j.index (length j.production.symbols) at))
        (subst (λ (k : Dotted L). Contains (reduced j ∷ reductions_of items) (reduced k)) same (contains_head (reduced j) (reductions_of items)))
    | inr later ↦ kept_at j items (reduced i) (j.index == length j.production.symbols) (reduced_in items i later f)
  ]

  -- ---- in order
  abbrev Stands : L × Production → L × Production → Type 0
  Stands r q = production_order r.1 q.1 ≡ Less

  finished_less : (i j : Dotted L) → IsFinished i → IsFinished j → Precedes i j → production_order i.production j.production ≡ Less
  finished_less i j f g (inl h) = h
  finished_less i j f g (inr h) = let same = ap (λ (p : Production). length p.symbols) h.0 in let l = h.1 in absurd (omega arith)

  ordered_at : (i : Dotted L) (items : List (Dotted L)) (b : Bool) → (i.index == length i.production.symbols) ≡ b → Ascend (i ∷ items) → Ordered Stands (reductions_of items) → Ordered Stands (cond b (reduced i ∷ reductions_of items) (reductions_of items))
  ordered_at i items true e a later = ordered-cons Stands (reduced i) (reductions_of items) (λ r c.
      let b = reduced_from items r c in
      let less = finished_less i b.item (eqb-true i.index (length i.production.symbols) e) b.finished (ordered-head Precedes i items a b.item b.among) in
      subst (λ (p : Production). production_order i.production p ≡ Less) (ap (λ (q : L × Production). q.1) b.is) less) later
  ordered_at i items false e a later = later

  pub reductions_ordered : (items : List (Dotted L)) → Ascend items → Ordered Stands (reductions_of items)
  reductions_ordered [] a = ordered-nil Stands
  reductions_ordered (i ∷ items) a = ordered_at i items (i.index == length i.production.symbols) refl a (reductions_ordered items (ordered-tail Precedes i items a))

  -- ---- the contents of reductions
  module _ (holds : L → Token → Bool) where
    abbrev pub meant : L × Production → Reduction
    meant r = record { production = r.1; holds = holds r.0 }

    meant_seen : (rs : List (L × Bor Production)) → map (reduction_of holds) rs ≡ map meant (map seen_reduction rs)
    meant_seen [] = refl
    meant_seen (r ∷ rs) = ap (λ (qs : List Reduction). reduction_of holds r ∷ qs) (meant_seen rs)

    module _ (state : State L) (finished : map seen_reduction state.reductions.items ≡ reductions_of state.items.vec.items) where
      pub meant_reductions : (contents_of holds state).reductions ≡ map meant (reductions_of state.items.vec.items)
      meant_reductions = meant_seen state.reductions.items ∙ ap (map meant) finished

      pub reduction_from : (r : Reduction) → Contains (contents_of holds state).reductions r → (i : Dotted L) × Contains state.items.vec.items i × IsFinished i × (meant (reduced i) ≡ r)
      reduction_from r c =
          let q = contains_of_map meant (reductions_of state.items.vec.items) r (subst (λ (rs : List Reduction). Contains rs r) meant_reductions c) in
          let b = reduced_from state.items.vec.items q.0 q.1 in
          (b.item, b.among, b.finished, ap meant b.is ∙ q.2)

      pub reduction_in : (i : Dotted L) → Contains state.items.vec.items i → IsFinished i → Contains (contents_of holds state).reductions (meant (reduced i))
      reduction_in i c f = subst (λ (rs : List Reduction). Contains rs (meant (reduced i))) (sym meant_reductions) (contains_map meant (reductions_of state.items.vec.items) (reduced i) (reduced_in state.items.vec.items i c f))

      module _ (ascend : Ascend state.items.vec.items) where
        stands_at : (k : ℕ) (r : Reduction) → slice_get (contents_of holds state).reductions k ≡ Some r → (q : L × Production) × (slice_get (reductions_of state.items.vec.items) k ≡ Some q) × (meant q ≡ r)
        stands_at k r at = some_of_map meant (slice_get (reductions_of state.items.vec.items) k) r (sym (slice_get-map meant (reductions_of state.items.vec.items) k) ∙ ap (λ (rs : List Reduction). slice_get rs k) (sym meant_reductions) ∙ at)

        pub reduces_in_order : ReducesInOrder production_order (contents_of holds state)
        reduces_in_order i j r q l at_i at_j =
            let a = stands_at i r at_i in
            let b = stands_at j q at_j in
            let less : production_order (a.0).1 (b.0).1 ≡ Less = reductions_ordered state.items.vec.items ascend i j a.0 b.0 l a.1 b.1 in
            subst (λ (x : Reduction). production_order r.production x.production ≡ Less) b.2 (subst (λ (x : Reduction). production_order x.production (b.0).1 ≡ Less) a.2 less)

        pub reduces_finished : ReducesFinished (contents_of holds state)
        reduces_finished = record {
          finished = λ p. (
            λ h.
                let i = reduction_from h.0 h.1 in
                let same : (i.0).production ≡ p = ap (λ (r : Reduction). r.production) i.3 ∙ h.2 in
                let at : dotted_of i.0 ≡ (p, length p.symbols) = ap (λ (n : ℕ). ((i.0).production, n)) i.2 ∙ ap (λ (q : Production). (q, length q.symbols)) same in
                subst (Contains (map dotted_of state.items.vec.items)) at (contains_map dotted_of state.items.vec.items i.0 i.1),
            λ c.
                let i = of_dotted state.items.vec.items (p, length p.symbols) c in
                let same : (i.0).production ≡ p = ap (λ (d : Production × ℕ). d.0) i.2 in
                let at : (i.0).index ≡ length p.symbols = ap (λ (d : Production × ℕ). d.1) i.2 in
                (meant (reduced i.0), reduction_in i.0 i.1 (at ∙ ap (λ (q : Production). length q.symbols) (sym same)), same),
          );
          once = λ i j r q l at_i at_j same. less_apart r.production q.production (reduces_in_order i j r q l at_i at_j) same;
        }

-- ---- a number without a state
pub no_reduction : (r : Reduction) → Contains no_contents.reductions r → ⊥
no_reduction r c = let l = c.1 in absurd (omega arith)

-- a number without a state has no reduction and no finished dotted production
pub nothing_reduced : ReducesFinished no_contents
nothing_reduced = record {
  finished = λ p. (λ h. absurd (no_reduction h.0 h.1), λ c. let l = c.1 in absurd (omega arith));
  once = λ i j r q l at. cc;
}
