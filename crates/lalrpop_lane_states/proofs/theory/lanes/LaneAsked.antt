-- The actions that are asked for are the shifts of a state whose terminals some reduction holds,
-- and its reductions. Also, the place of each among the actions.
use Rattle.std.proofs.Common.{◌≡◌, ℕ, inl, inr, Bool, List, [], ◌∷◌, map, length, ◌<◌, refl, sym, ◌∙◌, ap, subst, arith, Option, Some, None}
use Rattle.std.specs.Prelude.{Contains}
use Rattle.std.specs.Borrow.{Bor}
use Rattle.std.specs.List.{filter, flat_map}
use Rattle.std.specs.declared.cmp.Ordering.TheVariants.{Equal}
use Rattle.std.proofs.lemmas.Option.{slice_get_within}
use Rattle.std.proofs.lemmas.List.Elements.{Contains-append_left, Contains-append_right, Contains-append_cases}
use Rattle.lalrpop_base.specs.Words.{Bits, has, state_conflicts, shift_conflicts, shift_conflict, conflicts_on_place, reduce_conflicts, reduce_conflict}
use Rattle.lalrpop_base.specs.Words.{later_conflicts, share, place_in}
use Rattle.lalrpop_lanes.specs.Words.{AreAmong, IsReductionAt}
use Rattle.lalrpop_lane_states.proofs.Types.{Action, Conflict, Production, State, StateIndex, TerminalString}
use Rattle.lalrpop_states.specs.declared.lr1_core.state.Action.TheVariants.{Shift, Reduce}
use Rattle.lalrpop_collections.proofs.theory.lists.Lists.{contains_of_map, contains_map, contains_place, place_contains}
use Rattle.lalrpop_states.specs.conflicts.HeldShifts.{IsHeldBit}
use Rattle.lalrpop_lane_states.specs.Words.{action_order, AreActions, asked_actions, conflict_actions, reduce_action}
use Rattle.lalrpop_states.proofs.theory.grammars.AscendingItems.{production_exact}
use Rattle.lalrpop_collections.proofs.theory.lists.Bounded.{in_flat_map}
use Rattle.lalrpop_collections.proofs.theory.lists.Filters.{is_kept, kept_holds, of_kept}
use Rattle.lalrpop_collections.proofs.theory.lists.Members.{Contains-none, contains_head, contains_tail, contains-cons, of_flat}

abbrev pub CodeReduction : Type 0
CodeReduction = Bits × Bor Production

-- ---- an action that is asked for: a shift of the state whose terminal some reduction holds, or a
-- reduction of the state
abbrev pub IsAskedOf : List TerminalString → State Bits → Action → Type 0
IsAskedOf terminals state (Shift t target) = Contains state.shifts.entries (t, target) × ((bit : ℕ) × (place_in terminals t ≡ Some bit) × IsHeldBit state.reductions.items bit)
IsAskedOf terminals state (Reduce p) = (r : CodeReduction) × Contains state.reductions.items r × (r.1 ≡ p)

abbrev IsConflictOf : List TerminalString → State Bits → Conflict Bits → Type 0
IsConflictOf terminals state c = IsAskedOf terminals state (Reduce c.production) × IsAskedOf terminals state c.action

module _ (terminals : List TerminalString) (state : State Bits) where
  abbrev reductions : List CodeReduction
  reductions = state.reductions.items

  shift_of : (t : TerminalString) (target : StateIndex) → Contains state.shifts.entries (t, target) → (o : Option ℕ) → place_in terminals t ≡ o → (c : Conflict Bits) → Contains (conflicts_on_place state.index t target reductions o) c → IsConflictOf terminals state c
  shift_of t target among None e c i = absurd (Contains-none c i)
  shift_of t target among (Some bit) e c i =
      let holds : CodeReduction → Bool = λ q. has q.0 bit in
      let r = contains_of_map (shift_conflict state.index t target bit) (filter holds reductions) c i in
      let listed = of_kept holds reductions r.0 r.1 in
      let here : IsConflictOf terminals state (shift_conflict state.index t target bit r.0) = ((r.0, listed, refl), (among, (bit, e, (r.0, listed, kept_holds holds reductions r.0 r.1)))) in
      subst (IsConflictOf terminals state) r.2 here

  reduce_of : (rs : List CodeReduction) → ((r : CodeReduction) → Contains rs r → Contains reductions r) → (c : Conflict Bits) → Contains (reduce_conflicts state.index rs) c → IsConflictOf terminals state c
  reduce_of [] among c i = absurd (Contains-none c i)
  reduce_of (r ∷ rs) among c i = elim (Contains-append_cases (later_conflicts state.index r rs) (reduce_conflicts state.index rs) c i) [
    | inl here ↦
        let q = contains_of_map (reduce_conflict state.index r) (filter (λ (s : CodeReduction). share r.0 s.0) rs) c here in
        let both : IsConflictOf terminals state (reduce_conflict state.index r q.0) = ((r, among r (contains_head r rs), refl), (q.0, among q.0 (contains_tail r rs q.0 (of_kept (λ (s : CodeReduction). share r.0 s.0) rs q.0 q.1)), refl)) in
        subst (IsConflictOf terminals state) q.2 both
    | inr later ↦ reduce_of rs (λ q h. among q (contains_tail r rs q h)) c later
  ]

  conflict_of : (c : Conflict Bits) → Contains (state_conflicts terminals state) c → IsConflictOf terminals state c
  conflict_of c i = elim (Contains-append_cases (flat_map (shift_conflicts terminals state.index reductions) state.shifts.entries) (reduce_conflicts state.index reductions) c i) [
    | inl s ↦ let e = of_flat (shift_conflicts terminals state.index reductions) state.shifts.entries c s in shift_of (e.0).0 (e.0).1 e.1 (place_in terminals (e.0).0) refl c e.2
    | inr r ↦ reduce_of reductions (λ q h. h) c r
  ]

  of_pair : (c : Conflict Bits) (a : Action) → IsConflictOf terminals state c → Contains (conflict_actions c) a → IsAskedOf terminals state a
  of_pair c a h i = elim (contains-cons (Reduce c.production) (c.action ∷ []) a i) [
    | inl e ↦ subst (IsAskedOf terminals state) e h.0
    | inr later ↦ elim (contains-cons c.action [] a later) [ inl e ↦ subst (IsAskedOf terminals state) e h.1 | inr none ↦ absurd (Contains-none a none) ]
  ]

  -- each action that is asked for is such a shift or reduction
  pub asked_of : (a : Action) → Contains (asked_actions terminals state) a → IsAskedOf terminals state a
  asked_of a i = elim (Contains-append_cases (flat_map conflict_actions (state_conflicts terminals state)) (map reduce_action reductions) a i) [
    | inl s ↦ let c = of_flat conflict_actions (state_conflicts terminals state) a s in of_pair c.0 a (conflict_of c.0 c.1) c.2
    | inr r ↦ let q = contains_of_map reduce_action reductions a r in subst (IsAskedOf terminals state) q.2 (q.0, q.1, refl)
  ]

  -- each reduction is asked for
  pub reduction_asked : (r : CodeReduction) → Contains reductions r → Contains (asked_actions terminals state) (Reduce r.1)
  reduction_asked r among = Contains-append_right (flat_map conflict_actions (state_conflicts terminals state)) (map reduce_action reductions) (Reduce r.1) (contains_map reduce_action reductions r among)

  -- each shift whose terminal some reduction holds is asked for
  pub shift_asked : (t : TerminalString) (target : StateIndex) (bit : ℕ) → Contains state.shifts.entries (t, target) → place_in terminals t ≡ Some bit → IsHeldBit reductions bit → Contains (asked_actions terminals state) (Shift t target)
  shift_asked t target bit among e held =
      let holds : CodeReduction → Bool = λ q. has q.0 bit in
      let c = shift_conflict state.index t target bit held.0 in
      let here : Contains (conflicts_on_place state.index t target reductions (Some bit)) c = contains_map (shift_conflict state.index t target bit) (filter holds reductions) held.0 (is_kept holds reductions held.0 held.2 held.1) in
      let placed = subst (λ (o : Option ℕ). Contains (conflicts_on_place state.index t target reductions o) c) (sym e) here in
      let shifted = in_flat_map (shift_conflicts terminals state.index reductions) state.shifts.entries (t, target) c among placed in
      let listed = Contains-append_left (flat_map (shift_conflicts terminals state.index reductions) state.shifts.entries) (reduce_conflicts state.index reductions) c shifted in
      Contains-append_left (flat_map conflict_actions (state_conflicts terminals state)) (map reduce_action reductions) (Shift t target)
      (in_flat_map conflict_actions (state_conflicts terminals state) c (Shift t target) listed (contains_tail (Reduce held.0.1) (Shift t target ∷ []) (Shift t target) (contains_head (Shift t target) [])))

-- ---- actions that compare as equal
-- an action that compares as equal to a reduction is a reduction by an equal production
pub tied_reduce : (p : Bor Production) (b : Action) → action_order (Reduce p) b ≡ Equal → (lent : Bor Production) × (b ≡ Reduce lent) × (lent.now ≡ p.now)
tied_reduce p (Shift t target) e = cc
tied_reduce p (Reduce q) e = (q, refl, sym (production_exact p.now q.now e))

-- ---- each reduction of the state is among the actions
module _ (terminals : List TerminalString) (state : State Bits) (actions : List Action) (asked : AreActions (asked_actions terminals state) actions) where
  pub place_asked : (r : CodeReduction) → Contains state.reductions.items r → (place : ℕ) × IsReductionAt actions place r.1.now
  place_asked r among =
      let f = asked.all (Reduce r.1) (reduction_asked terminals state r among) in
      let t = tied_reduce r.1 f.0 f.2 in
      let k = contains_place actions f.0 f.1 in
      (k.0, record { lent = t.0; action = k.1 ∙ ap (λ (a : Action). Some a) t.1; same = t.2 })

  pub among_asked : AreAmong actions state
  among_asked k r at_k = place_asked r (place_contains state.reductions.items k r at_k)

  -- if the state has a reduction, there is an action
  pub asked_some : (r : CodeReduction) → Contains state.reductions.items r → 0 < length actions
  asked_some r among = let k = (place_asked r among).1.action in let w = slice_get_within actions _ _ k in omega arith
