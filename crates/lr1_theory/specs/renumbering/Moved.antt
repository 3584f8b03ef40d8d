-- Lists of states under new numbers.
use Rattle.std.specs.Prelude.{◌≡◌, ℕ, Bool, List, [], ◌∷◌, ◌++◌, MatchBool}
use Rattle.lalrpop_collections.specs.lists.Bits.{Bits}
use Rattle.lalrpop_states.specs.declared.lr1_core.state.State.{State}
use Rattle.lr1_theory.specs.renumbering.Renumbered.{IsRenumberedState}

-- the second list has the states of the first, each under its new number
pub data AreMoved (new : ℕ → ℕ) : List (State Bits) → List (State Bits) → Type 0 where
  no_more : AreMoved new [] []
  and_one : {state renumbered : State Bits} {before after : List (State Bits)} → IsRenumberedState new state renumbered → AreMoved new before after → AreMoved new (state ∷ before) (renumbered ∷ after)

-- if the list takes the state, it has the state under its new number after its own ones;
-- otherwise it stays the same
abbrev pub GrowsBy : (ℕ → ℕ) → Bool → State Bits → List (State Bits) → List (State Bits) → Type 0
GrowsBy new takes state old grown = MatchBool takes ((renumbered : State Bits) × IsRenumberedState new state renumbered × (grown ≡ old ++ renumbered ∷ [])) (grown ≡ old)
