-- A pass over LR(0) states and copies of these, and the states that it resolves.
use Rattle.std.proofs.Common.{◌≡◌, inl, inr, ℕ, ◌+◌, ◌<◌, ◌≤◌, Bool, true, false, List, length, map, refl, sym, ◌∙◌, ap, subst, arith, Option, Some, None}
use Rattle.std.specs.Prelude.{Contains, slice_get}
use Rattle.std.specs.declared.alloc.Global.{Global}
use Rattle.std.specs.declared.vec.Vec.{Vec}
use Rattle.std.proofs.lemmas.Option.{slice_get_within}
use Rattle.lalrpop_base.specs.Words.{Bits, contents_at, Contents, Dotted, IsBehindDot, number_in, Rules}
use Rattle.lalrpop_construction.specs.Words.{dot_of, HaveSamePlaces, places_in}
use Rattle.lalrpop_construction.specs.declared.construction.numbered_state.NumberedState.{NumberedState}
use Rattle.lalrpop_follow_sets.specs.follow_sets.FollowNodes.{AreExpanded, AreItemsOfGrammar}
use Rattle.lalrpop_follow_sets.specs.declared.follow_sets.sets.FollowSets.{FollowSets}
use Rattle.lalrpop_grammar.specs.declared.repr.Symbol.TheVariants.{Nonterminal}
use Rattle.lalrpop_lane_states.proofs.Types.{NonterminalString, Production, State, Token}
use Rattle.lalrpop_lane_states.specs.Words.{AreLaneStates, AreLr0Copies, AreResolvedBetween, HasSameReductions, IsResolvedAt, IsResolving, IsStateStep}
use Rattle.lalrpop_lane_states.specs.lane_states.FoundLookaheads.{AreFound, IsFoundAt}
use Rattle.lalrpop_lane_states.specs.declared.lane_table.construct.copying.Copying.{Copying}
use Rattle.lalrpop_state_graph.specs.Words.{AreCopies, edges, IsGraphOf}
use Rattle.lalrpop_collections.proofs.theory.lists.Places.{filled, places_apart, same_some}
use Rattle.lalrpop_follow_sets.proofs.theory.follow_sets.FollowClosures.{reached_expanded}
use Rattle.lalrpop_follow_sets.proofs.theory.lane_states.LanePlaces.{AreSamePlaces, place_itself, places_same, same_turned}
use Rattle.lalrpop_lane_states.proofs.theory.lane_states.FoundPlaces.{finds_on, numbered_on}
use Rattle.lalrpop_lane_states.proofs.theory.lane_states.LaneCoherent.{old_at}
use Rattle.lalrpop_lane_states.proofs.theory.lane_states.LaneFound.{lane_closed, lane_own, lane_reached}
use Rattle.lalrpop_lane_states.proofs.theory.lane_states.LaneLoop.{bits_on, graph_on, place_on, step_places}
use Rattle.lalrpop_lane_states.proofs.theory.lane_states.Resolving.{copies_step}

-- ---- what a pass demands
module _ (g : Rules) (start : NonterminalString) (handed : List (State Bits)) (made : AreLaneStates g start handed) (originals : List ℕ) (states : List (State Bits)) (c : AreCopies false handed originals states) where
  abbrev any : Bits → Token → Bool
  any lookahead t = true

  abbrev places : ℕ → Contents
  places = places_in states

  abbrev first : ℕ → Contents
  first = places_in handed

  -- a state, and its original, which has the same dotted productions
  record HasOriginal (n : ℕ) : Type 0 where
    pub within : number_in originals n < length handed
    pub items : (places n).items ≡ (first (number_in originals n)).items

  original_of : (n : ℕ) (state : State Bits) → slice_get states n ≡ Some state → HasOriginal n
  original_of n state at =
      let o = c.each n state at in
      record {
        within = slice_get_within handed (number_in originals n) o.0 o.1;
        items = ap (λ (s : Option (State Bits)). (contents_at any s).items) at ∙ ap (λ (is : List (Dotted Bits)). map dot_of is) (o.2).items ∙ ap (λ (s : Option (State Bits)). (contents_at any s).items) (sym o.1);
      }

  behind_as : (a b : Contents) → b.items ≡ a.items → (q : Production) → IsBehindDot a (Nonterminal q.nonterminal) → IsBehindDot b (Nonterminal q.nonterminal)
  behind_as a b same q h = record { production = h.production; dot = h.dot; after = h.after; item = subst (λ (ds : List (Production × ℕ)). Contains ds (h.production, h.dot)) (sym same) h.item; behind = h.behind }

  -- the nonterminals after dots are expanded, in copies too, if no other state is a copy of the first
  pub copied_expanded : ((n : ℕ) → number_in originals n ≡ 0 → n ≡ 0) → AreExpanded g.productions start places (length states)
  copied_expanded alone n l =
      let x = filled states n l in
      let o = original_of n x.0 x.1 in
      let m = number_in originals n in
      let e = reached_expanded g.productions start first (lane_closed g start handed made) (length handed) (lane_reached g start handed made) m o.within in
      record {
        begun = λ q item. elim (e.begun q (subst (λ (ds : List (Production × ℕ)). Contains ds (q, 0)) o.items item)) [
          | inl start_of ↦ inl (alone n start_of.0, start_of.1)
          | inr behind ↦ inr (behind_as (first m) (places n) o.items q behind)
        ];
        expanded = λ q own behind. subst (λ (ds : List (Production × ℕ)). Contains ds (q, 0)) (sym o.items) (e.expanded q own (behind_as (places n) (first m) (sym o.items) q behind));
      }

  -- each item is of the grammar
  pub copied_items : AreItemsOfGrammar g.productions places
  copied_items s q dot item = by_case (slice_get states s) refl item
    where
      by_case : (o : Option (State Bits)) → slice_get states s ≡ o → Contains (contents_at any o).items (q, dot) → Contains g.productions q × (dot ≤ length q.symbols)
      by_case None e k = absurd (let l = k.1 in omega arith)
      by_case (Some state) e k =
          let o = original_of s state e in
          let there : Contains (places s).items (q, dot) = subst (λ (p : Contents). Contains p.items (q, dot)) (sym (ap (contents_at any) e)) k in
          lane_own g start handed made (number_in originals s) q dot (subst (λ (ds : List (Production × ℕ)). Contains ds (q, dot)) o.items there)

-- ---- the states that a pass resolves
pub places_on : (old middle new : List (State Bits)) → HaveSamePlaces old middle → HaveSamePlaces middle new → HaveSamePlaces old new
places_on old middle new a b = record {
  counted = b.counted ∙ a.counted;
  each = λ n before after at_old at_new.
      let o = old_at middle new b n after at_new in
      place_on before o.0 after (a.each n before o.0 at_old o.1) o.2;
}

kept_all : (states : List (State Bits)) (n : ℕ) → HasSameReductions states states n
kept_all states n before after was is = ap (λ (s : State Bits). s.reductions.items) (same_some after before (sym is ∙ was))

module _ (g : Rules) (start : NonterminalString) (copies : ℕ) (found : FollowSets) (list : List NumberedState) (first : ℕ) (handed : List (State Bits)) where
  -- the invariant of the loop: the states from the first number up to the index are resolved, and
  -- copies stay copies
  pub record AreResolvedFrom (index : ℕ) (states : List (State Bits)) : Type 0 where
    pub made : AreLr0Copies g start copies states
    pub found_all : AreFound g start states found list
    pub stay : (lists : List (State Bits)) (originals : List ℕ) → AreCopies false lists originals handed → AreCopies false lists originals states
    pub between : AreResolvedBetween g start first index handed states

  pub resolved_none : first ≤ length handed → AreLr0Copies g start copies handed → AreFound g start handed found list → AreResolvedFrom first handed
  resolved_none within made all = record {
    made = made;
    found_all = all;
    stay = λ lists originals c. c;
    between = record { begun = omega arith; within = within; same = place_itself handed; resolved = λ n l m. absurd (omega (arith, l, m)); kept = λ n other. kept_all handed n };
  }

  -- the pass found the sets of each state
  pub found_here : (index : ℕ) (states : List (State Bits)) → AreResolvedFrom index states → (n : ℕ) (state : NumberedState) → slice_get list n ≡ Some state → IsFoundAt g start states n found state
  found_here index states h n state at =
      let f = h.found_all in
      record { numbers = f.numbers; of_grammar = f.of_grammar; finds = f.finds; numbered = (f.numbered).each n state at; reduced = λ old at_old. (f.numbered).reduced n old state at_old at }

  module _ (index : ℕ) (old new : List (State Bits)) (h : AreResolvedFrom index old) (step : IsStateStep index old new) where
    same : HaveSamePlaces old new
    same = step_places index old new step

    seen : AreSamePlaces (places_in old) (places_in new)
    seen = places_same (λ lookahead t. true) (λ lookahead t. true) old new same

    found_more : AreFound g start new found list
    found_more =
        let f = h.found_all in
        record {
          numbers = f.numbers;
          of_grammar = f.of_grammar;
          finds = finds_on g start f.numbers (places_in old) (places_in new) seen (length old) (length new) (sym step.counted) found f.finds;
          numbered = numbered_on f.numbers old new same list f.numbered;
        }

    made_more : AreLr0Copies g start copies new
    made_more =
        let m = h.made in
        record {
          handed = m.handed;
          made = m.made;
          originals = m.originals;
          each = copies_step m.handed m.originals old new index m.each step;
          counted = let k = m.counted in let l = step.counted in omega arith;
        }

    -- the state at the index is resolved, over the states before the loop
    resolved_here : IsResolvedAt g start old index new → IsResolvedAt g start handed index new
    resolved_here resolved state at =
        let before : AreSamePlaces (places_in handed) (places_in old) = places_same (λ lookahead t. true) (λ lookahead t. true) handed old (h.between).same in
        bits_on g start (places_in old) (places_in handed) (same_turned (places_in handed) (places_in old) before) index state (resolved state at)

    pub resolved_on : IsResolvedAt g start old index new → AreResolvedFrom (index + 1) new
    resolved_on resolved =
        let b = h.between in
        record {
          made = made_more;
          found_all = found_more;
          stay = λ lists originals c. copies_step lists originals old new index (h.stay lists originals c) step;
          between = record {
            begun = let k = b.begun in omega arith;
            within = let l = slice_get_within old index step.before step.was in let k = step.counted in omega arith;
            same = places_on handed old new b.same same;
            resolved = λ n l m. elim (places_apart n index) [
              | inl less ↦ λ state at. b.resolved n l less state (sym (step.others n (λ e. omega arith)) ∙ at)
              | inr more ↦ elim more [
                | inl past ↦ absurd (omega (arith, m, past))
                | inr e ↦ subst (λ (k : ℕ). IsResolvedAt g start handed k new) (sym e) (resolved_here resolved)
              ]
            ];
            kept = λ n other before after was is.
                let apart : n ≡ index → ⊥ = λ e. other (let k = b.begun in omega (arith, e)) (omega (arith, e)) in
                b.kept n (λ l m. other l (omega (arith, m))) before after was (sym (step.others n apart) ∙ is);
          };
        }

  -- a state that stayed is not resolved
  pub resolved_up_to : (index : ℕ) (old new : List (State Bits)) → AreResolvedFrom index old → new ≡ old → AreResolvedFrom index new
  resolved_up_to index old new h same = subst (AreResolvedFrom index) (sym same) h

-- states whose reductions alone changed are still resolved from the same states
pub resolving_between : (g : Rules) (start : NonterminalString) (copies : ℕ) (handed : List (State Bits)) (first end : ℕ) (old new : Copying) → IsResolving g start copies handed old → new.graph ≡ old.graph → new.copies_left ≡ old.copies_left → new.originals ≡ old.originals →
    ((lists : List (State Bits)) (originals : List ℕ) → AreCopies false lists originals old.states.items → AreCopies false lists originals new.states.items) → AreResolvedBetween g start first end old.states.items new.states.items → IsResolving g start copies handed new
resolving_between g start copies handed first end old new r graph left same_originals stay between = record {
  made = r.made;
  each = subst (λ (os : Vec ℕ Global). AreCopies false handed os.items new.states.items) (sym same_originals) (stay handed old.originals.items r.each);
  counted = let c = r.counted in let k = (between.same).counted in omega arith;
  graph = subst (IsGraphOf (edges new.states.items)) (sym graph) (graph_on old.states.items new.states.items old.graph between.same r.graph);
}
