-- States that differ from coherent ones in lookaheads are coherent, and have the same edges.
use Rattle.std.proofs.Common.{◌≡◌, ℕ, suc, ◌-◌, ◌<◌, List, [], ◌∷◌, ◌++◌, length, map, refl, sym, ◌∙◌, ap, subst, arith, Some, option_map}
use Rattle.std.specs.Prelude.{slice_get}
use Rattle.std.specs.BTreeMap.{BTreeMap}
use Rattle.std.proofs.lemmas.Option.{slice_get_within, slice_get-map}
use Rattle.lalrpop_base.specs.Words.{HasItem, IsShiftedFrom, IsCoherentStep, IsCoherentState, AreFinished, AreCoherent, Dotted}
use Rattle.lalrpop_lane_states.proofs.Types.{NonterminalString, Production, State, StateIndex, Symbol, TerminalString}
use Rattle.lalrpop_grammar.specs.declared.repr.Symbol.TheVariants.{Nonterminal, Terminal}
use Rattle.lalrpop_collections.proofs.theory.lists.Lists.{some_of_map}
use Rattle.lalrpop_construction.specs.Words.{dot_of, by, HasSamePlace, HaveSamePlaces}
use Rattle.lalrpop_state_graph.specs.Words.{Edge, edges_of, edges_from, edges, shift_edges, goto_edges}
use Rattle.lalrpop_collections.proofs.theory.lists.Places.{filled}

-- if two lists have the same images, each member of the second has a member with its image at the
-- same place of the first
pub stands : {X Y Z : Type 0} (f : X → Z) (h : Y → Z) (xs : List X) (ys : List Y) → map h ys ≡ map f xs → (k : ℕ) (y : Y) → slice_get ys k ≡ Some y → (x : X) × (slice_get xs k ≡ Some x) × (f x ≡ h y)
stands f h xs ys same k y at = some_of_map f (slice_get xs k) (h y) (sym (slice_get-map f xs k) ∙ ap (λ zs. slice_get zs k) (sym same) ∙ slice_get-map h ys k ∙ ap (option_map h) at)

module _ {K L : Type 0} where
  item_there : (xs : List (Dotted K)) (ys : List (Dotted L)) → map dot_of ys ≡ map dot_of xs → (p : Production) (d : ℕ) → HasItem xs p d → HasItem ys p d
  item_there xs ys same p d (k, item, at, here) =
      let s = stands dot_of dot_of ys xs (sym same) k item at in
      (k, s.0, s.1, record { same = ap (λ (x : Production × ℕ). x.0) s.2 ∙ here.same; dot = ap (λ (x : Production × ℕ). x.1) s.2 ∙ here.dot })

  shifted_there : (xs : List (Dotted K)) (ys : List (Dotted L)) → map dot_of ys ≡ map dot_of xs → (x : Symbol) (i : Dotted K) (j : Dotted L) → dot_of i ≡ dot_of j → IsShiftedFrom xs x i → IsShiftedFrom ys x j
  shifted_there xs ys same x i j e h = record {
    over = subst (λ (d : Production × ℕ). slice_get d.0.symbols (d.1 - 1) ≡ Some x) e h.over;
    origin = subst (λ (d : Production × ℕ). HasItem ys d.0 (d.1 - 1)) e (item_there xs ys same i.production (i.index - 1) h.origin);
  }

  module _ (old : List (State K)) (new : List (State L)) (same : HaveSamePlaces old new) where
    -- the old state at a place
    pub old_at : (n : ℕ) (state : State L) → slice_get new n ≡ Some state → (before : State K) × (slice_get old n ≡ Some before) × HasSamePlace before state
    old_at n state at =
        let within = slice_get_within new n state at in
        let counted = same.counted in
        let f = filled old n (omega arith) in
        (f.0, f.1, same.each n f.0 state f.1 at)

    -- the new state at a place
    pub new_at : (n : ℕ) (before : State K) → slice_get old n ≡ Some before → (state : State L) × (slice_get new n ≡ Some state) × HasSamePlace before state
    new_at n before at =
        let within = slice_get_within old n before at in
        let counted = same.counted in
        let f = filled new n (omega arith) in
        (f.0, f.1, same.each n before f.0 at f.1)

    step_there : (xs : List (Dotted K)) (ys : List (Dotted L)) → map dot_of ys ≡ map dot_of xs → (x : Symbol) (m : ℕ) → IsCoherentStep old xs x m → IsCoherentStep new ys x m
    step_there xs ys dots x m h =
        let to = new_at m h.to h.there in
        record {
          to = to.0;
          there = to.1;
          came = λ k j at over.
              let s = stands dot_of dot_of (h.to).items.vec.items (to.0).items.vec.items (to.2).dots k j at in
              let over_old = subst (λ (d : Production × ℕ). 0 < d.1) (sym s.2) over in
              shifted_there xs ys dots x s.0 j s.2 (h.came k s.0 s.1 over_old);
        }

    finished_there : (before : State K) (state : State L) → HasSamePlace before state → AreFinished before.items.vec.items before.reductions.items → AreFinished state.items.vec.items state.reductions.items
    finished_there before state p h k r at =
        let s = stands by by before.reductions.items state.reductions.items p.reduced k r at in
        subst (λ (q : Production). HasItem state.items.vec.items q (length q.symbols)) s.2 (item_there before.items.vec.items state.items.vec.items p.dots (by s.0) (length (by s.0).symbols) (h k s.0 s.1))

    state_there : (n : ℕ) (before : State K) (state : State L) → HasSamePlace before state → IsCoherentState old n before → IsCoherentState new n state
    state_there n before state p h = record {
      numbered = ap (λ (i : StateIndex). i.0) p.index ∙ h.numbered;
      start = λ zero_place k j at.
          let s = stands dot_of dot_of before.items.vec.items state.items.vec.items p.dots k j at in
          sym (ap (λ (d : Production × ℕ). d.1) s.2) ∙ h.start zero_place k s.0 s.1;
      shifts = λ k e at. step_there before.items.vec.items state.items.vec.items p.dots (Terminal e.0) (e.1).0 (h.shifts k e (ap (λ (m : BTreeMap TerminalString StateIndex). slice_get m.entries k) (sym p.shifts) ∙ at));
      gotos = λ k e at. step_there before.items.vec.items state.items.vec.items p.dots (Nonterminal e.0) (e.1).0 (h.gotos k e (ap (λ (m : BTreeMap NonterminalString StateIndex). slice_get m.entries k) (sym p.gotos) ∙ at));
      finished = finished_there before state p h.finished;
    }

    pub coherent_there : AreCoherent old → AreCoherent new
    coherent_there h n state at = let o = old_at n state at in state_there n o.0 state o.2 (h n o.0 o.1)

  -- ---- the edges
  edges_of_there : (n : StateIndex) (before : State K) (state : State L) → HasSamePlace before state → edges_of n state ≡ edges_of n before
  edges_of_there n before state p =
      ap (λ (m : BTreeMap TerminalString StateIndex). shift_edges n m.entries ++ goto_edges n state.gotos.entries) p.shifts
      ∙ ap (λ (m : BTreeMap NonterminalString StateIndex). shift_edges n before.shifts.entries ++ goto_edges n m.entries) p.gotos

  edges_from_there : (n : ℕ) (old : List (State K)) (new : List (State L)) → HaveSamePlaces old new → edges_from n new ≡ edges_from n old
  edges_from_there n [] [] same = refl
  edges_from_there n [] (z ∷ new) same = let c = same.counted in absurd (omega arith)
  edges_from_there n (s ∷ old) [] same = let c = same.counted in absurd (omega arith)
  edges_from_there n (s ∷ old) (z ∷ new) same =
      let counted : length new ≡ length old = let c = same.counted in omega arith in
      ap (λ (es : List Edge). es ++ edges_from (suc n) new) (edges_of_there (record { 0 = n }) s z (same.each 0 s z refl refl))
      ∙ ap (λ (es : List Edge). edges_of (record { 0 = n }) s ++ es) (edges_from_there (suc n) old new (record { counted = counted; each = λ k before after at_old at_new. same.each (suc k) before after at_old at_new }))

  pub edges_there : (old : List (State K)) (new : List (State L)) → HaveSamePlaces old new → edges new ≡ edges old
  edges_there old new same = edges_from_there 0 old new same
