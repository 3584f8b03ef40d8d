-- The actions that are asked for are the shifts whose terminals some reduction holds, and all
-- reductions.
use Rattle.std.proofs.Common.{◌≡◌, ◌∙◌, ◌↔◌, inl, inr, ℕ, Bool, true, false, cond, List, [], ◌∷◌, ◌++◌, map, refl, sym, ap, subst, append-nil}
use Rattle.std.specs.Prelude.{Contains, IsTrue}
use Rattle.std.specs.Borrow.{Bor}
use Rattle.std.specs.List.{flat_map}
use Rattle.std.proofs.lemmas.List.Elements.{Contains-append_left, Contains-append_right, Contains-append_cases}
use Rattle.lalrpop_base.specs.Words.{Bits, has, HasToken, holds_token, AllDiffer}
use Rattle.lalrpop_grammar.specs.declared.lookahead.token.Token.TheVariants.{Terminal as TokenOf}
use Rattle.lalrpop_lane_states.proofs.Types.{Action, Production, State, StateIndex, TerminalString}
use Rattle.lalrpop_states.specs.declared.lr1_core.state.Action.TheVariants.{Shift, Reduce}
use Rattle.lalrpop_collections.proofs.theory.lists.Lists.{contains_map, contains_of_map}
use Rattle.lalrpop_states.proofs.theory.states.HeldTokens.{holds_has}
use Rattle.lalrpop_states.specs.conflicts.HeldShifts.{held_shift, IsHeldBit}
use Rattle.lalrpop_lane_states.specs.Words.{AreActions, asked_actions, reduce_action}
use Rattle.lalrpop_collections.proofs.theory.lists.Bounded.{in_flat_map}
use Rattle.lalrpop_states.proofs.theory.grammars.KnownTerminals.{bit_held, held_bit}
use Rattle.lalrpop_lane_states.proofs.theory.lanes.LaneAsked.{asked_of, IsAskedOf, reduction_asked, shift_asked}
use Rattle.lalrpop_collections.proofs.theory.lists.Members.{contains-cons, contains_head, Contains-none, of_flat}

-- ---- one shift
-- a test that is not true is false
not_true : (b : Bool) → (b ≡ true → ⊥) → b ≡ false
not_true true none = absurd (none refl)
not_true false none = refl

module _ (terminals : List TerminalString) (differ : AllDiffer terminals) (held : Bits) (t : TerminalString) (target : StateIndex) where
  -- a shift whose terminal is not held adds nothing
  pub shift_passed : ¬ HasToken terminals held (TokenOf t) → (asked keys : List Action) → AreActions asked keys → AreActions (asked ++ held_shift terminals held (t, target)) keys
  shift_passed none asked keys h =
      let out = not_true (holds_token terminals held (TokenOf t)) (λ e. none ((holds_has terminals differ held (TokenOf t)).0 e)) in
      subst (λ (xs : List Action). AreActions xs keys) (sym (ap (λ (b : Bool). asked ++ cond b (Shift t target ∷ []) []) out ∙ append-nil asked)) h

  -- a shift whose terminal is held is added
  pub shift_taken : HasToken terminals held (TokenOf t) → (asked keys : List Action) → AreActions (asked ++ Shift t target ∷ []) keys → AreActions (asked ++ held_shift terminals held (t, target)) keys
  shift_taken some asked keys h =
      let yes = (holds_has terminals differ held (TokenOf t)).1 some in
      subst (λ (xs : List Action). AreActions xs keys) (sym (ap (λ (b : Bool). asked ++ cond b (Shift t target ∷ []) []) yes)) h

-- ---- all actions that are asked for
module _ (terminals : List TerminalString) (state : State Bits) (held : Bits) (of : (bit : ℕ) → IsTrue (has held bit) ↔ IsHeldBit state.reductions.items bit) where
  abbrev entries : List (TerminalString × StateIndex)
  entries = state.shifts.entries

  -- the shifts whose terminals are held, and all reductions
  abbrev gathered : List Action
  gathered = flat_map (held_shift terminals held) entries ++ map reduce_action state.reductions.items

  shift_at : (t : TerminalString) (target : StateIndex) → Contains entries (t, target) → (a : Action) (b : Bool) → holds_token terminals held (TokenOf t) ≡ b → Contains (cond b (Shift t target ∷ []) []) a → Contains (asked_actions terminals state) a
  shift_at t target among a true e c =
      let bit = held_bit terminals held (TokenOf t) e in
      elim (contains-cons (Shift t target) [] a c) [
        | inl same ↦ subst (Contains (asked_actions terminals state)) same (shift_asked terminals state t target bit.0 among bit.1 ((of bit.0).0 bit.2))
        | inr none ↦ absurd (Contains-none a none)
      ]
  shift_at t target among a false e c = absurd (Contains-none a c)

  -- each gathered action is asked for
  is_asked : (a : Action) → Contains gathered a → Contains (asked_actions terminals state) a
  is_asked a c = elim (Contains-append_cases (flat_map (held_shift terminals held) entries) (map reduce_action state.reductions.items) a c) [
    | inl s ↦ let e = of_flat (held_shift terminals held) entries a s in shift_at (e.0).0 (e.0).1 e.1 a (holds_token terminals held (TokenOf (e.0).0)) refl e.2
    | inr r ↦ let q = contains_of_map reduce_action state.reductions.items a r in subst (Contains (asked_actions terminals state)) q.2 (reduction_asked terminals state q.0 q.1)
  ]

  gathered_of : (a : Action) → IsAskedOf terminals state a → Contains gathered a
  gathered_of (Shift t target) h =
      let yes = bit_held terminals held (TokenOf t) h.1.0 h.1.1 ((of h.1.0).1 h.1.2) in
      let here = subst (λ (b : Bool). Contains (cond b (Shift t target ∷ []) []) (Shift t target)) (sym yes) (contains_head (Shift t target) []) in
      Contains-append_left (flat_map (held_shift terminals held) entries) (map reduce_action state.reductions.items) (Shift t target)
      (in_flat_map (held_shift terminals held) entries (t, target) (Shift t target) h.0 here)
  gathered_of (Reduce p) h =
      Contains-append_right (flat_map (held_shift terminals held) entries) (map reduce_action state.reductions.items) (Reduce p)
      (subst (λ (q : Bor Production). Contains (map reduce_action state.reductions.items) (Reduce q)) h.2 (contains_map reduce_action state.reductions.items h.0 h.1))

  -- the actions that are gathered are those that are asked for
  pub gathered_asked : (keys : List Action) → AreActions gathered keys → AreActions (asked_actions terminals state) keys
  gathered_asked keys h = record { of = λ a c. is_asked a (h.of a c); all = λ a c. h.all a (gathered_of a (asked_of terminals state a c)) }
