-- A state whose reductions took the lookahead sets found is resolved. If two of these sets share a
-- token, or one of them has the terminal of a shift, two actions of the state share a token.
use Rattle.std.proofs.Common.{◌≡◌, ◌↔◌, ℕ, Bool, true, List, length, map, refl, sym, ◌∙◌, ap, subst, arith, Some, slice_set}
use Rattle.std.specs.Prelude.{Contains, slice_get}
use Rattle.std.specs.BTreeMap.{BTreeMap}
use Rattle.std.proofs.lemmas.Option.{slice_get_within}
use Rattle.lalrpop_base.specs.Words.{Bits, has, contents, contents_at, Contents, HoldsBit, IsBitOf, leads, place_in, Rules, Action, Shift, Reduce}
use Rattle.lalrpop_follow_sets.specs.Words.{HasLookaheadBits, IsLookahead}
use Rattle.lalrpop_states.specs.conflicts.StateConflicts.{IsConflictFree}
use Rattle.lalrpop_lane_states.proofs.Types.{NonterminalString, Production, State, StateIndex, Symbol, TerminalString, Token}
use Rattle.lalrpop_grammar.specs.declared.lookahead.token.Token.TheVariants.{Terminal as TokenOf}
use Rattle.lalrpop_states.specs.declared.lr1_core.state.Items.{Items}
use Rattle.lalrpop_grammar.specs.declared.repr.Symbol.TheVariants.{Terminal}
use Rattle.lalrpop_states.proofs.theory.states.HeldTokens.{place_there}
use Rattle.lalrpop_lane_states.specs.Words.{AreLr0Copies, IsResolvedAt, IsStateStep}
use Rattle.lalrpop_construction.specs.Words.{by, dot_of, places_in}
use Rattle.lalrpop_follow_sets.specs.Words.{IsLaneAction, IsResolved, LanesMeet}
use Rattle.lalrpop_follow_sets.specs.follow_sets.FollowWalks.{AreUnions, entries_at, HoldsSomeOf, ShareBits, with_first, with_other}
use Rattle.lalrpop_lane_states.specs.lane_states.FoundLookaheads.{IsFoundAt, with_sets}
use Rattle.lalrpop_follow_sets.specs.declared.follow_sets.sets.FollowSets.{FollowSets}
use Rattle.lalrpop_construction.specs.declared.construction.numbered_state.NumberedState.{NumberedState}
use Rattle.lalrpop_follow_sets.proofs.theory.follow_sets.FollowBits.{held_at, held_within}
use Rattle.lalrpop_follow_sets.proofs.theory.follow_sets.FollowPasses.{numbered_behind}
use Rattle.lalrpop_follow_sets.proofs.theory.follow_sets.FollowSets.{lookaheads_resolved, reductions_meet, shift_meets}
use Rattle.lalrpop_lane_states.proofs.theory.lane_states.FoundSets.{CodeReduction, sets_by, TookSet, took_set}
use Rattle.lalrpop_lane_states.proofs.theory.lane_states.LaneLoop.{set_step}
use Rattle.lalrpop_follow_sets.proofs.theory.lane_states.LanePlaces.{AreSamePlaces, lane_there, places_same, place_itself}
use Rattle.lalrpop_lane_states.proofs.theory.lane_states.LaneResolved.{one_token}
use Rattle.lalrpop_lane_states.proofs.theory.lane_states.CopiedShape.{copied_item, places_closed, reduced_item, reduced_once}
use Rattle.lalrpop_states.proofs.theory.collapse.Merging.{set_here}
use Rattle.lalrpop_collections.proofs.theory.lists.Places.{filled, same_some}
use Rattle.lalrpop_construction.proofs.theory.construction.StateEdges.{transition_leads}
use Rattle.lalrpop_collections.proofs.theory.lists.Lists.{contains_place, place_contains}

-- an action of a state is an action of each state with the same place
action_there : (g : List Production) (start : NonterminalString) (a b : ℕ → Contents) → AreSamePlaces a b → (n : ℕ) (t : Token) (action : Action) → IsLaneAction g start a n t action → IsLaneAction g start b n t action
action_there g start a b same n t (Shift x) h = (h.0, ((h.1).0, (same n).edges (Terminal x) ∙ (h.1).1))
action_there g start a b same n t (Reduce p) h = (subst (λ (ds : List (Production × ℕ)). Contains ds (p, length p.symbols)) (sym (same n).items) h.0, lane_there g start a b same n p (length p.symbols) t h.1)

-- two actions that share a token share it in each state with the same place
meet_there : (g : List Production) (start : NonterminalString) (a b : ℕ → Contents) → AreSamePlaces a b → (n : ℕ) → LanesMeet g start a n → LanesMeet g start b n
meet_there g start a b same n m = record {
  first = m.first;
  second = m.second;
  apart = m.apart;
  token = m.token;
  here = action_there g start a b same n m.token m.first m.here;
  there = action_there g start a b same n m.token m.second m.there;
}

module _ (g : Rules) (start : NonterminalString) (copies : ℕ) (states : List (State Bits)) (made : AreLr0Copies g start copies states) (n : ℕ) (found : FollowSets) (numbered : NumberedState) (fits : IsFoundAt g start states n found numbered)
    (state : State Bits) (at : slice_get states n ≡ Some state) (sets : List Bits) (unions : AreUnions found.follow.items (entries_at found.lookback.items n) numbered.reductions.items sets) where
  abbrev any : Bits → Token → Bool
  any lookahead t = true

  abbrev places : ℕ → Contents
  places = places_in states

  abbrev reductions : List CodeReduction
  reductions = state.reductions.items

  -- each reduction has its set
  pub sets_counted : length sets ≡ length reductions
  sets_counted = unions.counted ∙ (fits.reduced state at).counted

  -- if the reductions take their sets, nothing else changes
  pub found_step : (new : State Bits) → new.index ≡ state.index → new.items ≡ state.items → new.shifts ≡ state.shifts → new.gotos ≡ state.gotos → new.reductions.items ≡ with_sets sets reductions → IsStateStep n states (slice_set states n new)
  found_step new number items shifts gotos took =
      set_step n states (slice_set states n new) state new at refl
      (record { index = number; dots = ap (λ (xs : Items Bits). map dot_of xs.vec.items) items; shifts = shifts; gotos = gotos; reduced = ap (map by) took ∙ sets_by sets reductions sets_counted })
      items

  -- each reduction is of a finished item
  finished : (r : CodeReduction) → Contains reductions r → Contains (places n).items (r.1.now, length r.1.now.symbols)
  finished r among = reduced_item g start copies states made n state r at among

  -- the set at the place of a reduction is its lookahead set
  set_lookahead : (j : ℕ) (set : Bits) (r : CodeReduction) → slice_get sets j ≡ Some set → slice_get reductions j ≡ Some r → HasLookaheadBits g start places n set r.1.now
  set_lookahead j set r at_set at_r =
      let l = slice_get_within sets j set at_set in
      let c = unions.counted in
      let k = filled numbered.reductions.items j (omega arith) in
      let number = (fits.reduced state at).each j k.0 r at_r k.1 in
      fits.finds.lookaheads n k.0 r.1.now (finished r (place_contains reductions j r at_r)) number set (λ bit.
      let u = unions.each j k.0 bit k.1 in
      let h = held_at sets j bit set at_set in
      (λ x. u.0 (h.1 x), λ x. h.0 (u.1 x)))

  module _ (shifted : Bits) (tokens : (bit : ℕ) → (has shifted bit ≡ true) ↔ HoldsSomeOf found.tokens.items numbered.edges.items bit) where
    -- the bit of a terminal that is shifted
    shift_bit : (t : TerminalString) (target : StateIndex) (bit : ℕ) → Contains state.shifts.entries (t, target) → place_in g.terminals t ≡ Some bit → has shifted bit ≡ true
    shift_bit t target bit entry place =
        let edge = transition_leads any state (Terminal t) target entry in
        let here : leads (places n) (Terminal t) ≡ Some edge.0.0 = ap (λ (s : Contents). leads s (Terminal t)) (ap (contents_at any) at) ∙ edge.1 in
        let b = ((places_closed g start copies states made).edges n (Terminal t)).0 (edge.0.0, here) in
        let own = copied_item g start copies states made n state b.production b.dot at (subst (λ (s : Contents). Contains s.items (b.production, b.dot)) (ap (contents_at any) at) b.item) in
        let x = numbered_behind g fits.numbers fits.of_grammar b.production b.dot (Terminal t) b.after own b.behind in
        (tokens bit).1 (x.0, edge.0.0, (fits.numbered.edges x.0 edge.0.0 (Terminal t) x.1).1 here, (fits.finds.tokens.each x.0 bit (Terminal t) x.1).1 (t, refl, place_there g.terminals t bit place))

    -- ---- no two sets share a token
    module _ (none : ShareBits shifted sets → ⊥) (new : State Bits) (shifts : new.shifts ≡ state.shifts) (took : new.reductions.items ≡ with_sets sets reductions) where
      -- the set that a reduction took
      took_at : (j : ℕ) (r : CodeReduction) → slice_get new.reductions.items j ≡ Some r → TookSet sets reductions j r
      took_at j r at_j = took_set sets reductions j r (ap (λ (rs : List CodeReduction). slice_get rs j) (sym took) ∙ at_j)

      -- each reduction holds its lookahead set
      holds_lookahead : (r : CodeReduction) → Contains new.reductions.items r → HasLookaheadBits g start places n r.0 r.1.now
      holds_lookahead r among =
          let j = contains_place new.reductions.items r among in
          let t = took_at j.0 r j.1 in
          subst (λ (q : CodeReduction). HasLookaheadBits g start places n q.0 q.1.now) (sym t.same) (set_lookahead j.0 t.set t.old t.found t.there)

      -- a token that a reduction holds is in the set at its place
      held : (j bit : ℕ) (r : CodeReduction) → slice_get new.reductions.items j ≡ Some r → has r.0 bit ≡ true → HoldsBit sets j bit
      held j bit r at_j h =
          let t = took_at j r at_j in
          (held_at sets j bit t.set t.found).1 (subst (λ (q : CodeReduction). has q.0 bit ≡ true) t.same h)

      -- the state has no conflict
      free : IsConflictFree g.terminals new
      free = record {
        shifts = λ k j bit t target r at_k place at_j h.
            let entry : Contains state.shifts.entries (t, target) = subst (λ (m : BTreeMap TerminalString StateIndex). Contains m.entries (t, target)) shifts (place_contains new.shifts.entries k (t, target) at_k) in
            none (with_first j bit (shift_bit t target bit entry place) (held j bit r at_j h));
        reductions = λ i j bit r q l at_i at_j h k. none (with_other i j bit l (held i bit r at_i h) (held j bit q at_j k));
      }

      -- the state with the sets is resolved
      pub found_resolved : IsResolved g start places n new
      found_resolved = lookaheads_resolved g start places n new (record { holds = holds_lookahead; free = free })

      -- the state is resolved after it is written
      pub found_written : IsResolvedAt g start states n (slice_set states n new)
      found_written other there =
          let same : new ≡ other = same_some new other (sym (set_here states n new (slice_get_within states n state at)) ∙ there) in
          subst (IsResolved g start places n) same found_resolved

    -- ---- two sets share a token
    -- a bit of a set is that of a token in the lookahead set of the reduction
    record HoldsToken (j bit : ℕ) : Type 0 where
      pub reduction : CodeReduction
      pub there : slice_get reductions j ≡ Some reduction
      pub item : Contains (places n).items (reduction.1.now, length reduction.1.now.symbols)
      pub among : (t : Token) × IsBitOf g.terminals t bit × IsLookahead g.productions start places n reduction.1.now t

    -- each bit of a set is that of such a token
    holds_token_at : (j bit : ℕ) → HoldsBit sets j bit → HoldsToken j bit
    holds_token_at j bit h =
        let l = held_within sets j bit h in
        let set = filled sets j l in
        let r = filled reductions j (let c = sets_counted in omega arith) in
        record {
          reduction = r.0;
          there = r.1;
          item = finished r.0 (place_contains reductions j r.0 r.1);
          among = (set_lookahead j set.0 r.0 set.1 r.1 bit).0 ((held_at sets j bit set.0 set.1).0 h);
        }

    -- the two actions that share a token
    meet_here : ShareBits shifted sets → LanesMeet g.productions start places n
    meet_here (with_first j bit h k) =
        let e = (tokens bit).0 h in
        let s = filled fits.numbers.symbols.items e.0 (fits.numbered.named e.0 e.1 e.2) in
        let token = (fits.finds.tokens.each e.0 bit s.0 s.1).0 e.3 in
        let edge : (places n).shift token.0 ≡ Some e.1 = subst (λ (x : Symbol). leads (places n) x ≡ Some e.1) token.1 ((fits.numbered.edges e.0 e.1 s.0 s.1).0 e.2) in
        let a = holds_token_at j bit k in
        let one : (a.among).0 ≡ TokenOf token.0 = one_token g.terminals (a.among).0 (TokenOf token.0) bit (a.among).1 token.2 in
        shift_meets g.productions start places n e.1 token.0 a.reduction.1.now edge a.item (subst (IsLookahead g.productions start places n a.reduction.1.now) one (a.among).2)
    meet_here (with_other i j bit l h k) =
        let a = holds_token_at i bit h in
        let b = holds_token_at j bit k in
        let one : (b.among).0 ≡ (a.among).0 = one_token g.terminals (b.among).0 (a.among).0 bit (b.among).1 (a.among).1 in
        reductions_meet g.productions start places n a.reduction.1.now b.reduction.1.now (a.among).0 (reduced_once g start copies states made n state at i j a.reduction b.reduction l a.there b.there)
        a.item b.item (a.among).2 (subst (IsLookahead g.productions start places n b.reduction.1.now) one (b.among).2)

    -- the two actions share the token over the contents of the states, too
    pub found_meet : ShareBits shifted sets → LanesMeet g.productions start (contents g.terminals states) n
    found_meet share = meet_there g.productions start places (contents g.terminals states) (places_same any _ states states (place_itself states)) n (meet_here share)
