-- States are resolved one after the other. The lanes stay the same, since only reductions change.
use Rattle.std.proofs.Common.{◌≡◌, ◌⊎◌, inl, inr, ℕ, ◌+◌, ◌<◌, true, List, length, refl, sym, ◌∙◌, ap, subst, arith, Some, slice_set}
use Rattle.std.specs.Prelude.{Contains, slice_get}
use Rattle.std.proofs.lemmas.Option.{slice_get_within}
use Rattle.lalrpop_base.specs.Words.{Bits, Contents, Rules}
use Rattle.lalrpop_states.specs.declared.lr1_core.state.Items.{Items}
use Rattle.lalrpop_lane_states.proofs.Types.{NonterminalString, State, TerminalString}
use Rattle.lalrpop_construction.specs.Words.{HasSamePlace, HaveSamePlaces, places_in}
use Rattle.lalrpop_lane_states.specs.Words.{AreLaneStates, HaveFullItems, HoldAllFrom, IsResolvedAt, IsStateStep}
use Rattle.lalrpop_follow_sets.specs.Words.{IsResolved}
use Rattle.lalrpop_state_graph.specs.Words.{edges, IsGraphOf}
use Rattle.lalrpop_follow_sets.specs.follow_sets.FollowWalks.{FindsLookaheads}
use Rattle.lalrpop_construction.specs.states.NumberedStates.{AreNumberedStates}
use Rattle.lalrpop_numbers.specs.declared.numbers.Numbers.{Numbers}
use Rattle.lalrpop_follow_sets.specs.declared.follow_sets.sets.FollowSets.{FollowSets}
use Rattle.lalrpop_construction.specs.declared.construction.numbered_state.NumberedState.{NumberedState}
use Rattle.lalrpop_state_graph.specs.declared.state_graph.StateGraph.{StateGraph}
use Rattle.lalrpop_lane_states.proofs.theory.lane_states.FoundPlaces.{finds_on, numbered_on}
use Rattle.lalrpop_lane_states.proofs.theory.lane_states.LaneCoherent.{edges_there, old_at}
use Rattle.lalrpop_follow_sets.proofs.theory.lane_states.LanePlaces.{AreSamePlaces, same_turned, places_same, lane_there, place_itself}
use Rattle.lalrpop_states.proofs.theory.collapse.Merging.{set_here, set_elsewhere, set_length}
use Rattle.lalrpop_collections.proofs.theory.lists.Places.{same_some, places_apart}

-- states with the same places, from a first list to a second and on to a third
pub place_on : {K L M : Type 0} (a : State K) (b : State L) (c : State M) → HasSamePlace a b → HasSamePlace b c → HasSamePlace a c
place_on a b c p q = record { index = q.index ∙ p.index; dots = q.dots ∙ p.dots; shifts = q.shifts ∙ p.shifts; gotos = q.gotos ∙ p.gotos; reduced = q.reduced ∙ p.reduced }

apart_or : (n m : ℕ) → (n ≡ m) ⊎ (n ≡ m → ⊥)
apart_or n m = elim (places_apart n m) [
  | inl l ↦ inr (λ e. omega arith)
  | inr later ↦ elim later [ inl l ↦ inr (λ e. omega arith) | inr e ↦ inl e ]
]

-- a step keeps the places
pub step_places : (index : ℕ) (old new : List (State Bits)) → IsStateStep index old new → HaveSamePlaces old new
step_places index old new s = record {
  counted = s.counted;
  each = λ n before after at_old at_new. elim (apart_or n index) [
    | inl same ↦
        let was : s.before ≡ before = same_some s.before before (sym s.was ∙ ap (slice_get old) (sym same) ∙ at_old) in
        let is : s.after ≡ after = same_some s.after after (sym s.is ∙ ap (slice_get new) (sym same) ∙ at_new) in
        subst (λ (x : State Bits). HasSamePlace x after) was (subst (HasSamePlace s.before) is s.same)
    | inr other ↦
        let e : after ≡ before = same_some after before (sym at_new ∙ s.others n other ∙ at_old) in
        (place_itself old).each n before after at_old (at_old ∙ ap (λ (x : State Bits). Some x) (sym e))
  ];
}

-- one state was written
pub set_step : (index : ℕ) (old new : List (State Bits)) (before after : State Bits) → slice_get old index ≡ Some before → new ≡ slice_set old index after → HasSamePlace before after → after.items ≡ before.items → IsStateStep index old new
set_step index old new before after was written same items = record {
  before = before;
  after = after;
  was = was;
  is = ap (λ (xs : List (State Bits)). slice_get xs index) written ∙ set_here old index after (slice_get_within old index before was);
  counted = ap length written ∙ set_length old index after;
  others = λ k other. ap (λ (xs : List (State Bits)). slice_get xs k) written ∙ set_elsewhere old index k after other;
  same = same;
  items = items;
}

-- a step may change nothing
pub idle_step : (index : ℕ) (states : List (State Bits)) (state : State Bits) → slice_get states index ≡ Some state → IsStateStep index states states
idle_step index states state at = record { before = state; after = state; was = at; is = at; counted = refl; others = λ k other. refl; same = record { index = refl; dots = refl; shifts = refl; gotos = refl; reduced = refl }; items = refl }

-- ---- properties that a step keeps
step_items : (terminals : List TerminalString) (index : ℕ) (old new : List (State Bits)) → IsStateStep index old new → HaveFullItems terminals old → HaveFullItems terminals new
step_items terminals index old new s full n state item at among = elim (apart_or n index) [
  | inl same ↦
      let is : state ≡ s.after = same_some state s.after (sym at ∙ ap (slice_get new) same ∙ s.is) in
      full index s.before item s.was (subst (λ (items : Items Bits). Contains items.vec.items item) (ap (λ (x : State Bits). x.items) is ∙ s.items) among)
  | inr other ↦ full n state item (sym (s.others n other) ∙ at) among
]

pub lane_states_on : (g : Rules) (start : NonterminalString) (index : ℕ) (old new : List (State Bits)) → IsStateStep index old new → AreLaneStates g start old → AreLaneStates g start new
lane_states_on g start index old new step made =
    let same = step_places index old new step in
    record {
      bare = made.bare;
      lr0 = made.lr0;
      same = record {
        counted = same.counted ∙ made.same.counted;
        each = λ n before after at_bare at_new.
            let o = old_at old new same n after at_new in
            place_on before o.0 after (made.same.each n before o.0 at_bare o.1) o.2;
      };
      items = step_items g.terminals index old new step made.items;
    }

pub graph_on : (old new : List (State Bits)) (graph : StateGraph) → HaveSamePlaces old new → IsGraphOf (edges old) graph → IsGraphOf (edges new) graph
graph_on old new graph same h = subst (λ es. IsGraphOf es graph) (sym (edges_there old new same)) h

pub bits_on : (g : Rules) (start : NonterminalString) (a b : ℕ → Contents) → AreSamePlaces a b → (n : ℕ) (state : State Bits) → IsResolved g start a n state → IsResolved g start b n state
bits_on g start a b same n state h = record {
  holds = λ r among bit. (
    λ has_bit. let k = (h.holds r among bit).0 has_bit in (k.0, k.1, lane_there g.productions start a b same n r.1.now (length r.1.now.symbols) k.0 k.2),
    λ k. (h.holds r among bit).1 (k.0, k.1, lane_there g.productions start b a (same_turned a b same) n r.1.now (length r.1.now.symbols) k.0 k.2),
  );
  free = h.free;
}

-- the invariant of the loop: the states below the index are resolved, and those from it on hold all
-- tokens; the results of the pass are of these states
pub record AreResolvedTo (g : Rules) (start : NonterminalString) (n : Numbers) (found : FollowSets) (list : List NumberedState) (count index : ℕ) (states : List (State Bits)) : Type 0 where
  pub lanes : AreLaneStates g start states
  pub finds : FindsLookaheads g start n (places_in states) (length states) found
  pub numbered : AreNumberedStates n states list
  pub counted : length states ≡ count
  pub done : (n : ℕ) (state : State Bits) → n < index → slice_get states n ≡ Some state → IsResolved g start (places_in states) n state
  pub left : HoldAllFrom g.terminals index states

pub resolved_more : (g : Rules) (start : NonterminalString) (n : Numbers) (found : FollowSets) (list : List NumberedState) (count index : ℕ) (old new : List (State Bits)) → AreResolvedTo g start n found list count index old → IsStateStep index old new → IsResolvedAt g start old index new → AreResolvedTo g start n found list count (index + 1) new
resolved_more g start numbers found list count index old new h step resolved =
    let same = step_places index old new step in
    let places : AreSamePlaces (places_in old) (places_in new) = places_same (λ lookahead t. true) (λ lookahead t. true) old new same in
    record {
      lanes = lane_states_on g start index old new step h.lanes;
      finds = finds_on g start numbers (places_in old) (places_in new) places (length old) (length new) (sym step.counted) found h.finds;
      numbered = numbered_on numbers old new same list h.numbered;
      counted = step.counted ∙ h.counted;
      done = λ n state below at. elim (places_apart n index) [
        | inl before ↦ bits_on g start (places_in old) (places_in new) places n state (h.done n state before (sym (step.others n (λ e. omega arith)) ∙ at))
        | inr later ↦ elim later [
          | inl past ↦ absurd (omega arith)
          | inr e ↦ subst (λ (k : ℕ). IsResolved g start (places_in new) k state) (sym e) (bits_on g start (places_in old) (places_in new) places index state (resolved state (ap (slice_get new) (sym e) ∙ at)))
        ]
      ];
      left = λ n state from at. h.left n state (omega arith) (sym (step.others n (λ e. omega arith)) ∙ at);
    }
