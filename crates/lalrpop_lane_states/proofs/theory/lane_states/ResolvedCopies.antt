-- Which states are resolved, and which keep their reductions.
use Rattle.std.proofs.Common.{◌≡◌, ℕ, ◌+◌, Result, Ok, Err, IfOk, ◌<◌, ◌≤◌, inl, inr, Bool, true, false, List, length, Some, refl, slice_set, sym, ap, subst, ◌∙◌, arith}
use Rattle.std.specs.Prelude.{slice_get}
use Rattle.std.specs.Borrow.{Bor}
use Rattle.std.proofs.lemmas.Bool.{cases_lt}
use Rattle.std.proofs.lemmas.Option.{slice_get_within}
use Rattle.lalrpop_base.specs.Words.{Bits, Rules}
use Rattle.lalrpop_lane_states.proofs.Types.{Action, NonterminalString, Production, State, StateIndex}
use Rattle.lalrpop_lane_states.specs.Words.{Advances, AreApart, AreResolvedBetween, AreResolvedUpTo, HasOverlap, HasSameReductions, IsApartAt, IsAttempted, IsMerging, IsResolvedAt, IsResolvedCopy, IsResolving, IsResolveStep}
use Rattle.lalrpop_state_graph.specs.Words.{AreCopies}
use Rattle.lalrpop_construction.specs.states.NumberedStates.{AreNumberedStates}
use Rattle.lalrpop_construction.specs.declared.construction.numbered_state.NumberedState.{NumberedState}
use Rattle.lalrpop_numbers.specs.declared.numbers.Numbers.{Numbers}
use Rattle.lalrpop_lane_states.specs.declared.lane_table.construct.copying.Copying.{Copying}
use Rattle.lalrpop_lane_states.specs.declared.lane_table.construct.merge.Merge.{Merge}
use Rattle.lalrpop_lanes.specs.declared.lane_table.table.LaneTable.{LaneTable}
use Rattle.lalrpop_follow_sets.proofs.theory.lane_states.LanePlaces.{place_itself}
use Rattle.lalrpop_lane_states.proofs.theory.lane_states.LaneLoop.{set_step}
use Rattle.lalrpop_lane_states.proofs.theory.lane_states.LaneResolved.{applied_same}
use Rattle.lalrpop_state_graph.proofs.theory.graphs.GraphCopies.{number_at}
use Rattle.lalrpop_lane_states.proofs.theory.merges.LanePatches.{taken_apart}
use Rattle.lalrpop_states.proofs.theory.collapse.Merging.{set_here}
use Rattle.lalrpop_collections.proofs.theory.lists.Places.{filled, places_apart, same_some}

-- ---- one state
same_reductions : (states : List (State Bits)) (n : ℕ) → HasSameReductions states states n
same_reductions states n before after was is = ap (λ (s : State Bits). s.reductions.items) (same_some after before (sym is ∙ was))

pub tried_same : (index : ℕ) (states : List (State Bits)) → IsResolveStep index false states states
tried_same index states = record { apart = λ e. cc; kept = λ n other. same_reductions states n; longer = omega arith }

-- a state is resolved if its reductions took columns that share no token
pub tried_taken : (index : ℕ) (old new : List (State Bits)) (before after : State Bits) → slice_get old index ≡ Some before → new ≡ slice_set old index after → (actions : List Action) (table : LaneTable) → IsAttempted actions table before after → IsResolveStep index true old new
tried_taken index old new before after at set actions table a =
    let place = applied_same actions a.columns before after a.applied in
    let step = set_step index old new before after at set place a.applied.items in
    let is : slice_get new index ≡ Some after = ap (λ (xs : List (State Bits)). slice_get xs index) set ∙ set_here old index after (slice_get_within old index before at) in
    record {
      apart = λ e state there.
          subst (λ (s : State Bits). AreApart s.reductions.items) (same_some after state (sym is ∙ there))
          (taken_apart actions a.columns index old new (record { before = before; after = after; was = at; is = is; counted = step.counted; others = step.others; disjoint = a.disjoint; applied = a.applied }));
      kept = λ n other first second was now. same_reductions old n first second was (sym (step.others n (other refl)) ∙ now);
      longer = let k = step.counted in omega arith;
    }

-- ---- a merge
module _ (old mid : Merge) (begun : AreCopies true old.states.items old.originals.items old.states.items) (on : Advances old mid) where
  own : (n : ℕ) (before : State Bits) → slice_get old.states.items n ≡ Some before → slice_get mid.originals.items n ≡ Some n
  own n before was = on.originals n n (begun.own n (slice_get_within old.states.items n before was))

  -- walks change no reductions
  walked_kept : (n : ℕ) → HasSameReductions old.states.items mid.states.items n
  walked_kept n before after was is =
      let c = (on.copies true old.states.items begun).each n after is in
      let here : slice_get old.states.items n ≡ Some c.0 = ap (slice_get old.states.items) (sym (number_at mid.originals.items n n (own n before was))) ∙ c.1 in
      c.2.reductions ∙ ap (λ (s : State Bits). s.reductions.items) (same_some c.0 before (sym here ∙ was))

  pub walked_tried : IsResolveStep old.inconsistent_state.0 false old.states.items mid.states.items
  walked_tried = record { apart = λ e. cc; kept = λ n other. walked_kept n; longer = on.longer }

  module _ (ready : IsMerging old) (new : Merge) (same : new ≡ record mid { states = new.states }) (counted : length new.states.items ≡ length mid.states.items) (others : (n : ℕ) → (slice_get mid.originals.items n ≡ Some mid.inconsistent_state.0 → ⊥) → slice_get new.states.items n ≡ slice_get mid.states.items n) (resolved : (n : ℕ) → IsResolvedCopy new n) where
    target : slice_get new.originals.items old.inconsistent_state.0 ≡ Some new.inconsistent_state.0
    target =
        let n = old.inconsistent_state.0 in
        ap (λ (m : Merge). slice_get m.originals.items n) same
        ∙ on.originals n n (ready.rows old.inconsistent_state ready.start)
        ∙ ap (λ (s : StateIndex). Some s.0) (sym on.start)
        ∙ ap (λ (m : Merge). Some m.inconsistent_state.0) (sym same)

    pub patched_tried : IsResolveStep old.inconsistent_state.0 true old.states.items new.states.items
    patched_tried = record {
      apart = λ e state there. resolved old.inconsistent_state.0 state target there;
      kept = λ n other before after was is.
          let apart = λ (e : slice_get mid.originals.items n ≡ Some mid.inconsistent_state.0). other refl (same_some n old.inconsistent_state.0 (sym (own n before was) ∙ e ∙ ap (λ (s : StateIndex). Some s.0) on.start)) in
          walked_kept n before after was (sym (others n apart) ∙ is);
      longer = let k = on.longer in omega arith;
    }

pub tried_on : (i j : ℕ) (resolved : Bool) (a b c d : List (State Bits)) → i ≡ j → a ≡ b → c ≡ d → IsResolveStep i resolved a c → IsResolveStep j resolved b d
tried_on i j resolved a b c d place was is tried = subst (λ n. IsResolveStep n resolved b d) place (subst (λ (xs : List (State Bits)). IsResolveStep i resolved xs d) was (subst (λ (xs : List (State Bits)). IsResolveStep i resolved a xs) is tried))

-- a state that was not resolved has an overlap
pub overlap_if : {E : Type 0} (g : Rules) (start : NonterminalString) (copies n : ℕ) → HasOverlap g start copies n → (r : Result (Copying × Bool) E) → IfOk r (λ answer. answer.1 ≡ false → HasOverlap g start copies n)
overlap_if g start copies n h (Ok answer) = λ e. h
overlap_if g start copies n h (Err e) = tt

-- ---- all states
-- the states from the first number up to the place are resolved, and the others have the reductions
-- that were handed in
pub record AreResolvedBelow (first index : ℕ) (handed states : List (State Bits)) : Type 0 where
  pub reached : first ≤ index
  pub before : (n : ℕ) → n < first → HasSameReductions handed states n
  pub resolved : (n : ℕ) → first ≤ n → n < index → IsApartAt states n
  pub left : (n : ℕ) → index ≤ n → HasSameReductions handed states n
  pub longer : length handed ≤ length states

pub below_none : (first : ℕ) (handed : List (State Bits)) → AreResolvedBelow first first handed handed
below_none first handed = record { reached = omega arith; before = λ n l. same_reductions handed n; resolved = λ n l m. absurd (omega arith); left = λ n l. same_reductions handed n; longer = omega arith }

module _ (first index : ℕ) (handed old new : List (State Bits)) (below : AreResolvedBelow first index handed old) (listed : index < length old) (done : Bool) (tried : IsResolveStep index done old new) where
  before_it : (n : ℕ) → first ≤ n → n < index → IsApartAt new n
  before_it n l m state at =
      let was = filled old n (omega arith) in
      let same = tried.kept n (λ e here. absurd (omega (arith, here, m))) was.0 state was.1 at in
      subst (λ rs. AreApart rs) (sym same) (below.resolved n l m was.0 was.1)

  kept_on : (n : ℕ) → HasSameReductions handed old n → (done ≡ true → n ≡ index → ⊥) → HasSameReductions handed new n
  kept_on n same other before after was is =
      let middle = filled old n (let w = slice_get_within handed n before was in let k = below.longer in omega arith) in
      tried.kept n other middle.0 after middle.1 is ∙ same before middle.0 was middle.1

  before_first : (n : ℕ) → n < first → HasSameReductions handed new n
  before_first n l = kept_on n (below.before n l) (λ e here. let k = below.reached in absurd (omega (arith, here, l)))

  behind_it : (n : ℕ) → index ≤ n → (done ≡ true → n ≡ index → ⊥) → HasSameReductions handed new n
  behind_it n l = kept_on n (below.left n l)

  pub below_more : done ≡ true → AreResolvedBelow first (index + 1) handed new
  below_more held = record {
    reached = let k = below.reached in omega arith;
    before = before_first;
    resolved = λ n l m. elim (cases_lt n index) [
      | inl less ↦ before_it n l less
      | inr most ↦ subst (IsApartAt new) (let e : index ≡ n = omega arith in e) (tried.apart held)
    ];
    left = λ n l. behind_it n (omega arith) (λ e here. absurd (omega (arith, here, l)));
    longer = let k = below.longer in let m = tried.longer in omega arith;
  }

  pub ends_here : (g : Rules) (start : NonterminalString) (copies : ℕ) → done ≡ false → HasOverlap g start copies index → AreResolvedUpTo g start copies first index handed new
  ends_here g start copies failed overlap = record {
    before = before_first;
    resolved = before_it;
    left = λ n l. behind_it n l (λ held here. cc);
    ends = inr overlap;
  }

-- ---- a pass
-- no two reductions of a resolved state share a token
resolved_apart : (g : Rules) (start : NonterminalString) (old new : List (State Bits)) (n : ℕ) → IsResolvedAt g start old n new → IsApartAt new n
resolved_apart g start old new n h state at i j bit r q at_i at_j here there =
    let free = (h state at).free in
    elim (places_apart i j) [
      | inl before ↦ absurd (free.reductions i j bit r q before at_i at_j here there)
      | inr other ↦ elim other [
        | inl behind ↦ absurd (free.reductions j i bit q r behind at_j at_i there here)
        | inr e ↦ ap (λ (x : Bits × Bor Production). x.1.now) (same_some r q (sym at_i ∙ ap (slice_get state.reductions.items) e ∙ at_j))
      ]
    ]

module _ (g : Rules) (start : NonterminalString) (first index end : ℕ) (handed old new : List (State Bits)) (below : AreResolvedBelow first index handed old) (b : AreResolvedBetween g start index end old new) where
  kept_through : (n : ℕ) → HasSameReductions handed old n → (index ≤ n → n < end → ⊥) → HasSameReductions handed new n
  kept_through n same other before after was is =
      let middle = filled old n (let w = slice_get_within handed n before was in let k = below.longer in omega arith) in
      b.kept n other middle.0 after middle.1 is ∙ same before middle.0 was middle.1

  still_apart : (n : ℕ) → first ≤ n → n < index → IsApartAt new n
  still_apart n l m state at =
      let was = filled old n (let w = slice_get_within new n state at in let k = (b.same).counted in omega arith) in
      let same = b.kept n (λ from to. absurd (omega (arith, from, m))) was.0 state was.1 at in
      subst (λ rs. AreApart rs) (sym same) (below.resolved n l m was.0 was.1)

  pub below_between : AreResolvedBelow first end handed new
  below_between = record {
    reached = let k = below.reached in let l = b.begun in omega arith;
    before = λ n l. kept_through n (below.before n l) (λ from to. let k = below.reached in absurd (omega (arith, from, l)));
    resolved = λ n l m. elim (cases_lt n index) [
      | inl less ↦ still_apart n l less
      | inr most ↦ resolved_apart g start old new n (b.resolved n most m)
    ];
    left = λ n l. kept_through n (below.left n (let k = b.begun in omega arith)) (λ from to. absurd (omega (arith, l, to)));
    longer = let k = below.longer in let c = (b.same).counted in omega arith;
  }

-- a pass may resolve no state
pub resolved_nothing : (g : Rules) (start : NonterminalString) (first : ℕ) (states : List (State Bits)) → first ≤ length states → AreResolvedBetween g start first first states states
resolved_nothing g start first states within = record { begun = omega arith; within = within; same = place_itself states; resolved = λ n l m. absurd (omega (arith, l, m)); kept = λ n other. same_reductions states n }

-- the invariant of the loop: the states are copies of those that were handed in, which have numbers,
-- and those from the first number up to the index are resolved
pub record IsResolvingFrom (g : Rules) (start : NonterminalString) (copies : ℕ) (n : Numbers) (numbered : List NumberedState) (first index : ℕ) (entry now : Copying) : Type 0 where
  pub handed : List (State Bits)
  pub numbers : AreNumberedStates n handed numbered
  pub resolving : IsResolving g start copies handed now
  pub below : AreResolvedBelow first index entry.states.items now.states.items

-- a turn of the loop: one state is resolved by its lanes, and some of those after it by a pass
pub resolving_on : (g : Rules) (start : NonterminalString) (copies : ℕ) (n : Numbers) (numbered : List NumberedState) (first index end : ℕ) (entry old middle new : Copying) (done : Bool) → done ≡ true → IsResolvingFrom g start copies n numbered first index entry old → index < length old.states.items → IsResolveStep index done old.states.items middle.states.items →
    ((handed : List (State Bits)) → IsResolving g start copies handed old → IsResolving g start copies handed middle) → AreResolvedBetween g start (index + 1) end middle.states.items new.states.items → ((handed : List (State Bits)) → IsResolving g start copies handed middle → IsResolving g start copies handed new) → IsResolvingFrom g start copies n numbered first end entry new
resolving_on g start copies n numbered first index end entry old middle new done held h listed tried one between more = record {
  handed = h.handed;
  numbers = h.numbers;
  resolving = more h.handed (one h.handed h.resolving);
  below = below_between g start first (index + 1) end entry.states.items middle.states.items new.states.items (below_more first index entry.states.items old.states.items middle.states.items h.below listed done tried held) between;
}

pub ends_all : (g : Rules) (start : NonterminalString) (copies first index : ℕ) (handed states : List (State Bits)) → AreResolvedBelow first index handed states → (index < length states → ⊥) → AreResolvedUpTo g start copies first (length states) handed states
ends_all g start copies first index handed states below past = record {
  before = below.before;
  resolved = λ n l m. below.resolved n l (elim (cases_lt index (length states)) [
    | inl less ↦ absurd (past less)
    | inr most ↦ omega arith
  ]);
  left = λ n l before after was is. absurd (let w = slice_get_within states n after is in omega arith);
  ends = inl refl;
}
