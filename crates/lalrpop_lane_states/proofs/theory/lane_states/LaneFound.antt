-- The conditions of a pass over the states of lane tables.
use Rattle.std.proofs.Common.{◌≡◌, ℕ, zero, suc, ◌<◌, ◌≤◌, List, [], ◌∷◌, drop, length, refl, arith, Option, Some, None, Bool, true}
use Rattle.std.specs.Prelude.{Contains, slice_get}
use Rattle.std.proofs.lemmas.Option.{slice_get_within}
use Rattle.lalrpop_base.specs.Words.{Bits, AreClosed, contents_at, Contents, expands, Rules, shifts, starts, Valid, AreNumbers}
use Rattle.lalrpop_lane_states.proofs.Types.{NonterminalString, Production, State, Symbol, Token}
use Rattle.lr1_theory.proofs.theory.closures.Closures.{reached_at}
use Rattle.lalrpop_collections.proofs.theory.lists.Lists.{grown}
use Rattle.lalrpop_grammar.proofs.theory.closures.Valid.{of_grammar}
use Rattle.lalrpop_follow_sets.specs.follow_sets.FollowNodes.{AreAllReached, AreItemsOfGrammar}
use Rattle.lalrpop_follow_sets.specs.follow_sets.FollowWalks.{FindsLookaheads}
use Rattle.lalrpop_lane_states.specs.lane_states.FoundLookaheads.{IsFoundAt}
use Rattle.lalrpop_construction.specs.states.NumberedStates.{AreNumberedStates}
use Rattle.lalrpop_lane_states.specs.Words.{AreLaneStates}
use Rattle.lalrpop_construction.specs.Words.{places_in}
use Rattle.lalrpop_numbers.specs.declared.numbers.Numbers.{Numbers}
use Rattle.lalrpop_follow_sets.specs.declared.follow_sets.sets.FollowSets.{FollowSets}
use Rattle.lalrpop_construction.specs.declared.construction.numbered_state.NumberedState.{NumberedState}
use Rattle.lalrpop_lane_states.proofs.theory.lane_states.LaneShape.{here_closed, right_at}

-- a dot with a symbol after it is before the end
before_end : {A : Type 0} (dot : ℕ) (xs : List A) {x : A} {after : List A} → drop dot xs ≡ x ∷ after → dot < length xs
before_end zero [] e = cc
before_end zero (y ∷ xs) e = omega arith
before_end (suc dot) [] e = cc
before_end (suc dot) (y ∷ xs) e = omega (arith, before_end dot xs e)

-- the dot of a valid item is not past the end
valid_within : {g : List Production} {start : NonterminalString} {u : List Symbol} {p : Production} {dot : ℕ} → Valid g start u p dot → dot ≤ length p.symbols
valid_within (starts p h e) = omega arith
valid_within (shifts {p = p} {dot = dot} x after v e) = omega (arith, before_end dot p.symbols e)
valid_within (expands q after v e h) = omega arith

module _ (g : Rules) (start : NonterminalString) (states : List (State Bits)) (made : AreLaneStates g start states) where
  abbrev any : Bits → Token → Bool
  any lookahead t = true

  abbrev places : ℕ → Contents
  places = places_in states

  -- the states are closed
  pub lane_closed : AreClosed g.productions start places
  lane_closed = here_closed g start states made any

  -- each state is reached
  pub lane_reached : AreAllReached places (length states)
  lane_reached n l =
      let a = right_at g start states made any n l in
      reached_at g.productions start places lane_closed (grown a.prefix) n a.after

  -- each item is of the grammar
  pub lane_own : AreItemsOfGrammar g.productions places
  lane_own s q dot item = by_case (slice_get states s) refl item
    where
      by_case : (o : Option (State Bits)) → slice_get states s ≡ o → Contains (contents_at any o).items (q, dot) → Contains g.productions q × (dot ≤ length q.symbols)
      by_case None e c = absurd (let l = c.1 in omega arith)
      by_case (Some state) e c =
          let r = right_at g start states made any s (slice_get_within states s state e) in
          let v = (r.right.items q dot).0 item in
          (of_grammar v, valid_within v)

  module _ (n : Numbers) (numbers : AreNumbers g n) where
    -- a pass finds the lookahead sets of each state
    pub found_at : (found : FollowSets) (list : List NumberedState) → FindsLookaheads g start n places (length states) found → AreNumberedStates n states list → (s : ℕ) (state : NumberedState) → slice_get list s ≡ Some state → IsFoundAt g start states s found state
    found_at found list finds numbered s state at = record {
      numbers = n;
      of_grammar = numbers;
      finds = finds;
      numbered = numbered.each s state at;
      reduced = λ old at_old. numbered.reduced s old state at_old at;
    }
