-- The results of a pass are of all states with the same places: only the tokens of reductions
-- differ.
use Rattle.std.proofs.Common.{◌≡◌, ◌↔◌, ℕ, List, length, map, sym, ◌∙◌, ap, subst, Some, option_map}
use Rattle.std.specs.Prelude.{Contains, slice_get}
use Rattle.std.specs.Borrow.{Bor}
use Rattle.std.proofs.lemmas.List.{length-map}
use Rattle.std.proofs.lemmas.Option.{slice_get-map}
use Rattle.lalrpop_base.specs.Words.{Bits, Contents, Dotted, Rules, with_dot}
use Rattle.lalrpop_follow_sets.specs.Words.{HasLookaheadBits, IsLookahead}
use Rattle.lalrpop_lane_states.proofs.Types.{Nil, NonterminalString, Production, State, Token}
use Rattle.lalrpop_collections.proofs.theory.lists.Lists.{some_of_map}
use Rattle.lalrpop_follow_sets.specs.follow_sets.FollowWalks.{FindsLookaheads}
use Rattle.lalrpop_construction.specs.states.NumberedStates.{AreNumberedStates, AreReducedNumbers, IsNumberedState}
use Rattle.lalrpop_construction.specs.Words.{by, HaveSamePlaces, places_in}
use Rattle.lalrpop_numbers.specs.declared.numbers.Numbers.{Numbers}
use Rattle.lalrpop_follow_sets.specs.declared.follow_sets.sets.FollowSets.{FollowSets}
use Rattle.lalrpop_construction.specs.declared.construction.numbered_state.NumberedState.{NumberedState}
use Rattle.lalrpop_follow_sets.proofs.theory.follow_sets.FollowSets.{lane_lookahead}
use Rattle.lalrpop_lane_states.proofs.theory.lane_states.LaneCoherent.{old_at}
use Rattle.lalrpop_follow_sets.proofs.theory.lane_states.LanePlaces.{AreSamePlaces, IsSamePlace, lane_there, places_same, same_turned}

-- ---- lookahead sets
-- a token of a lookahead set is one over all states with the same places
lookahead_there : (g : List Production) (start : NonterminalString) (a b : ℕ → Contents) → AreSamePlaces a b → (s : ℕ) (p : Production) (t : Token) → IsLookahead g start a s p t → IsLookahead g start b s p t
lookahead_there g start a b same s p t l = (lane_lookahead g start b s p t).0 (lane_there g start a b same s p (length p.symbols) t ((lane_lookahead g start a s p t).1 l))

-- a set has the bits of a lookahead set over all states with the same places
bits_there : (g : Rules) (start : NonterminalString) (a b : ℕ → Contents) → AreSamePlaces a b → (s : ℕ) (set : Bits) (p : Production) → HasLookaheadBits g start a s set p → HasLookaheadBits g start b s set p
bits_there g start a b same s set p h bit = (
  λ x. let t = (h bit).0 x in (t.0, t.1, lookahead_there g.productions start a b same s p t.0 t.2),
  λ t. (h bit).1 (t.0, t.1, lookahead_there g.productions start b a (same_turned a b same) s p t.0 t.2),
)

-- the results of a pass stay
pub finds_on : (g : Rules) (start : NonterminalString) (n : Numbers) (a b : ℕ → Contents) → AreSamePlaces a b → (before after : ℕ) → before ≡ after → (found : FollowSets) → FindsLookaheads g start n a before found → FindsLookaheads g start n b after found
finds_on g start n a b same before after counted found h = record {
  counted = h.counted ∙ counted;
  within = h.within;
  lookaheads = λ s k p item number set union. bits_there g start a b same s set p (h.lookaheads s k p (subst (λ (ds : List (Production × ℕ)). Contains ds (p, length p.symbols)) (same s).items item) number set union);
  tokens = h.tokens;
}

-- ---- states by number
-- a state by number is that of each state with the same place
state_there : (n : Numbers) (a b : Contents) → IsSamePlace a b → (state : NumberedState) → IsNumberedState n a state → IsNumberedState n b state
state_there n a b same state h = record {
  known = h.known;
  items = λ k i at. subst (λ (ds : List (Production × ℕ)). Contains state.items.items k ↔ Contains ds (i.production, i.index)) (sym same.items) (h.items k i at);
  named = h.named;
  edges = λ x m s at. (
    λ c. same.edges s ∙ (h.edges x m s at).0 c,
    λ l. (h.edges x m s at).1 (sym (same.edges s) ∙ l),
  );
}

-- the numbers of reductions are those of all reductions by the same productions
pub reduced_by : (items : List (Dotted Nil)) (old new : List (Bits × Bor Production)) → map by new ≡ map by old → (numbers : List ℕ) → AreReducedNumbers items old numbers → AreReducedNumbers items new numbers
reduced_by items old new same numbers h = record {
  counted = h.counted ∙ sym by_counted;
  each = λ j k r at_r at_k.
      let q = some_of_map by (slice_get old j) r.1.now (sym (slice_get-map by old j) ∙ ap (λ (ps : List Production). slice_get ps j) (sym same) ∙ slice_get-map by new j ∙ ap (option_map by) at_r) in
      h.each j k q.0 q.1 at_k ∙ ap (λ (p : Production). Some (with_dot p (length p.symbols))) q.2;
}
  where
    -- there are as many reductions
    by_counted : length new ≡ length old
    by_counted = sym (length-map new by) ∙ ap length same ∙ length-map old by

-- the states by number stay
pub numbered_on : (n : Numbers) (old new : List (State Bits)) → HaveSamePlaces old new → (list : List NumberedState) → AreNumberedStates n old list → AreNumberedStates n new list
numbered_on n old new same list h = record {
  counted = h.counted ∙ sym same.counted;
  each = λ s state at. state_there n (places_in old s) (places_in new s) (places_same _ _ old new same s) state (h.each s state at);
  reduced = λ s after state at_new at.
      let o = old_at old new same s after at_new in
      reduced_by n.items.items o.0.reductions.items after.reductions.items (o.2).reduced state.reductions.items (h.reduced s o.0 state o.1 at);
}
