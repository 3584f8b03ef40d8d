-- Lookahead sets that a pass over states finds, and that are put into the states one by one.
use Rattle.std.specs.Prelude.{◌≡◌, ℕ, List, [], ◌∷◌, length, slice_get, Some}
use Rattle.std.specs.Borrow.{Bor}
use Rattle.lalrpop_base.specs.Words.{Bits, Rules, AreNumbers}
use Rattle.lalrpop_states.specs.declared.lr1_core.state.State.{State}
use Rattle.lalrpop_grammar.specs.declared.repr.NonterminalString.{NonterminalString}
use Rattle.lalrpop_grammar.specs.declared.repr.Production.{Production}
use Rattle.lalrpop_follow_sets.specs.follow_sets.FollowWalks.{FindsLookaheads}
use Rattle.lalrpop_construction.specs.states.SamePlaces.{places_in}
use Rattle.lalrpop_construction.specs.states.NumberedStates.{AreNumberedStates, AreReducedNumbers, IsNumberedState}
use Rattle.lalrpop_numbers.specs.declared.numbers.Numbers.{Numbers}
use Rattle.lalrpop_follow_sets.specs.declared.follow_sets.sets.FollowSets.{FollowSets}
use Rattle.lalrpop_construction.specs.declared.construction.numbered_state.NumberedState.{NumberedState}

-- the pass found the lookahead sets of the states, by the numbers of the grammar, and the state by
-- number is that of the state at the place
pub record IsFoundAt (g : Rules) (start : NonterminalString) (states : List (State Bits)) (n : ℕ) (found : FollowSets) (state : NumberedState) : Type 0 where
  pub numbers : Numbers
  pub of_grammar : AreNumbers g numbers
  pub finds : FindsLookaheads g start numbers (places_in states) (length states) found
  pub numbered : IsNumberedState numbers (places_in states n) state
  pub reduced : (old : State Bits) → slice_get states n ≡ Some old → AreReducedNumbers numbers.items.items old.reductions.items state.reductions.items

-- the pass found the lookahead sets of all states, and the list has the states by number
pub record AreFound (g : Rules) (start : NonterminalString) (states : List (State Bits)) (found : FollowSets) (list : List NumberedState) : Type 0 where
  pub numbers : Numbers
  pub of_grammar : AreNumbers g numbers
  pub finds : FindsLookaheads g start numbers (places_in states) (length states) found
  pub numbered : AreNumberedStates numbers states list

-- the reductions, each with the set at its place
abbrev pub with_sets : List Bits → List (Bits × Bor Production) → List (Bits × Bor Production)
with_sets [] reductions = []
with_sets (set ∷ sets) [] = []
with_sets (set ∷ sets) (r ∷ reductions) = (set, r.1) ∷ with_sets sets reductions
