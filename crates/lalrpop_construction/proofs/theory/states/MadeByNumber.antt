-- A state of the construction by the numbers of its items and transitions.
use Rattle.std.proofs.Common.{◌≡◌, ◌∙◌, inl, inr, ℕ, Bool, true, cond, List, [], ◌∷◌, ◌++◌, length, map, refl, sym, ap, subst, arith, Option, Some, None, eq-eqb, ne_eqb, suc, ◌==◌}
use Rattle.std.specs.Prelude.{slice_get, Contains, option_map}
use Rattle.std.specs.List.{AllZip}
use Rattle.std.proofs.lemmas.List.{length-map}
use Rattle.std.proofs.lemmas.Option.{slice_get-map, slice_get_within}
use Rattle.lalrpop_base.specs.Words.{Dotted, Rules, contents_of, leads, reductions_of, seen_reduction, state_entries, with_dot, AreNumbers, IsNumberBehind}
use Rattle.lalrpop_collections.proofs.theory.lists.Members.{zipped_length}
use Rattle.lalrpop_collections.proofs.theory.lists.Places.{filled}
use Rattle.lalrpop_construction.proofs.Types.{Production, State, Symbol, Token}
use Rattle.lalrpop_collections.proofs.theory.lists.Zipped.{zip_at, push_both, push_counted}
use Rattle.lalrpop_construction.proofs.theory.states.ItemNumbers.{Items-numbered}
use Rattle.lalrpop_construction.proofs.theory.states.EdgesByNumber.{one_target}
use Rattle.lalrpop_construction.proofs.theory.states.NumberedItems.{dots_in}
use Rattle.lalrpop_construction.proofs.theory.construction.StateEdges.{leads_transition, transition_leads}
use Rattle.lalrpop_construction.specs.states.NumberedStates.{AreEdgesBy, AreItemsAt, AreNumberedAs, IsMadeByNumber, IsNumberedAs, IsNumberedState, finished_at, finished_in, finished_only}
use Rattle.lalrpop_numbers.specs.declared.numbers.Numbers.{Numbers}
use Rattle.lalrpop_construction.specs.declared.construction.numbered_state.NumberedState.{NumberedState}

module _ {L : Type 0} (g : Rules) (n : Numbers) (numbers : AreNumbers g n) where
  -- the number is that of the finished item of the reduction
  abbrev IsFinishedBy : ℕ → L × Production → Type 0
  IsFinishedBy k r = slice_get n.items.items k ≡ Some (with_dot r.1 (length r.1.symbols))

  -- the lists agree after one more item in front
  zip_step : (k : ℕ) (i : Dotted L) (ks : List ℕ) (rs : List (L × Production)) (o : Option ℕ) → slice_get n.behind.items k ≡ Some o → IsNumberBehind n.symbols.items (with_dot i.production i.index) o → slice_get n.items.items k ≡ Some (with_dot i.production i.index) → AllZip IsFinishedBy ks rs →
      AllZip IsFinishedBy (finished_at n k ++ ks) (cond (i.index == length i.production.symbols) ((i.lookahead, i.production) ∷ rs) rs)
  zip_step k i ks rs None at end known z =
      let first = known ∙ ap (λ (dot : ℕ). Some (with_dot i.production dot)) end in
      subst (λ (own : List ℕ). AllZip IsFinishedBy (own ++ ks) (cond (i.index == length i.production.symbols) ((i.lookahead, i.production) ∷ rs) rs)) (sym (ap (λ (behind : Option (Option ℕ)). finished_only behind k) at))
      (subst (λ (b : Bool). AllZip IsFinishedBy (k ∷ ks) (cond b ((i.lookahead, i.production) ∷ rs) rs)) (sym (eq-eqb i.index (length i.production.symbols) end)) (first, z))
  zip_step k i ks rs (Some x) at there known z =
      let within = slice_get_within i.production.symbols i.index there.0 there.2 in
      subst (λ (own : List ℕ). AllZip IsFinishedBy (own ++ ks) (cond (i.index == length i.production.symbols) ((i.lookahead, i.production) ∷ rs) rs)) (sym (ap (λ (behind : Option (Option ℕ)). finished_only behind k) at))
      (subst (λ (b : Bool). AllZip IsFinishedBy ks (cond b ((i.lookahead, i.production) ∷ rs) rs)) (sym (ne_eqb i.index (length i.production.symbols) (λ e. absurd (omega (arith, within, e))))) z)

  -- the finished items by number are those of the reductions of the items, one by one
  Finished-zip : (ks : List ℕ) (items : List (Dotted L)) → AreItemsAt n.items.items ks items → AllZip IsFinishedBy (finished_in n ks) (reductions_of items)
  Finished-zip [] [] at = tt
  Finished-zip [] (i ∷ items) at = absurd (let e = at.counted in omega arith)
  Finished-zip (k ∷ ks) [] at = absurd (let e = at.counted in omega arith)
  Finished-zip (k ∷ ks) (i ∷ items) at =
      let known = at.each 0 k i refl refl in
      let within = slice_get_within n.items.items k (with_dot i.production i.index) known in
      let counted = n.counted in
      let behind = filled n.behind.items k (omega (arith, within, counted)) in
      let rest : AreItemsAt n.items.items ks items = record { counted = (let e = at.counted in omega arith); each = λ j m item. at.each (suc j) m item } in
      zip_step k i (finished_in n ks) (reductions_of items) behind.0 behind.1 (numbers.behind k (with_dot i.production i.index) behind.0 known behind.1) known (Finished-zip ks items rest)

  module _ (old : State L) (state : NumberedState) where
    abbrev any : L → Token → Bool
    any lookahead t = true

    edge_leads : AreEdgesBy n.symbols.items state.edges.items (state_entries old) → (x m : ℕ) (s : Symbol) → slice_get n.symbols.items x ≡ Some s → Contains state.edges.items (x, m) → leads (contents_of any old) s ≡ Some m
    edge_leads edges x m s at c =
        let found = transition_leads any old s (record { 0 = m }) (edges.listed.there x m s at c) in
        found.1 ∙ ap Some (one_target state.edges.items edges.ascend x (found.0).0 m (edges.listed.back x s found.0 at found.2) c)

    leads_edge : AreEdgesBy n.symbols.items state.edges.items (state_entries old) → (x m : ℕ) (s : Symbol) → slice_get n.symbols.items x ≡ Some s → leads (contents_of any old) s ≡ Some m → Contains state.edges.items (x, m)
    leads_edge edges x m s at l =
        let t = leads_transition any old s m l in
        subst (λ (k : ℕ). Contains state.edges.items (x, k)) t.1 (edges.listed.back x s t.0 at t.2)

    -- a state by numbers is the state if it has its items and transitions
    pub Numbered-state : AreItemsAt n.items.items state.items.items old.items.vec.items → AreEdgesBy n.symbols.items state.edges.items (state_entries old) → IsNumberedState n (contents_of any old) state
    Numbered-state items edges =
        let all = Items-numbered n.items.items numbers.items.ascend state.items.items old.items.vec.items items in
        record {
          known = all.known;
          items = λ k i at.
              let listed = all.numbered k i at in
              let dots = dots_in old.items.vec.items i in
              (λ c. dots.0 (listed.0 c), λ c. listed.1 (dots.1 c));
          named = edges.listed.named;
          edges = λ x m s at. (edge_leads edges x m s at, leads_edge edges x m s at);
        }

    -- a state by numbers also has the reductions if they are its finished items
    pub Numbered-as : IsMadeByNumber n state.items.items state.edges.items old → state.reductions.items ≡ finished_in n state.items.items → IsNumberedAs n old state
    Numbered-as made same =
        let zip : AllZip IsFinishedBy state.reductions.items (map seen_reduction old.reductions.items) =
        subst (λ (rs : List (L × Production)). AllZip IsFinishedBy state.reductions.items rs) (sym made.finished)
        (subst (λ (ks : List ℕ). AllZip IsFinishedBy ks (reductions_of old.items.vec.items)) (sym same) (Finished-zip state.items.items old.items.vec.items made.items)) in
        record {
          is = Numbered-state made.items made.edges;
          reduced = record {
            counted = sym (zipped_length IsFinishedBy state.reductions.items (map seen_reduction old.reductions.items) zip) ∙ length-map old.reductions.items seen_reduction;
            each = λ j k r at_r at_k. zip_at IsFinishedBy state.reductions.items (map seen_reduction old.reductions.items) zip j k (seen_reduction r) at_k (slice_get-map seen_reduction old.reductions.items j ∙ ap (option_map seen_reduction) at_r);
          };
        }

-- the list has the states by numbers after one more state
pub As-more : {L : Type 0} (n : Numbers) (states : List (State L)) (old : State L) (list : List NumberedState) (state : NumberedState) → AreNumberedAs n states list → IsNumberedAs n old state → AreNumberedAs n (states ++ old ∷ []) (list ++ state ∷ [])
As-more {L} n states old list state before is = record {
  counted = push_counted states old list state before.counted;
  each = λ s p q at_p at_q. elim (push_both states old list state before.counted s p q at_p at_q) [
    | inl was ↦ before.each s p q was.0 was.1
    | inr new ↦ subst (λ (x : State L). IsNumberedAs n x q) new.1 (subst (λ (x : NumberedState). IsNumberedAs n old x) new.2 is)
  ];
}
