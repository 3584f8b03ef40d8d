-- The conflicts of all states of a list.
use Rattle.std.specs.Prelude.{◌≡◌, ◌≢◌, ℕ, ◌++◌, ◌∷◌, List, [], slice_get, Some}
use Rattle.std.specs.List.{flat_map}
use Rattle.lalrpop_states.specs.conflicts.Failures.{IfConflicts}
use Rattle.lalrpop_states.specs.conflicts.StateConflicts.{state_conflicts, IsConflictFree}
use Rattle.lalrpop_collections.specs.lists.Bits.{Bits}
use Rattle.lalrpop_states.specs.declared.lr1_core.state.BuildError.{BuildError}
use Rattle.lalrpop_states.specs.declared.lr1_core.state.Conflict.{Conflict}
use Rattle.lalrpop_states.specs.declared.lr1_core.state.State.{State}
use Rattle.lalrpop_grammar.specs.declared.repr.TerminalString.{TerminalString}

-- no state has a conflict
abbrev pub AreAllConflictFree : List TerminalString → List (State Bits) → Type 0
AreAllConflictFree terminals states = (k : ℕ) (state : State Bits) → slice_get states k ≡ Some state → IsConflictFree terminals state

-- the list has the conflicts of each state, in the order of the states, and is not empty
pub record AreAllConflicts (terminals : List TerminalString) (states : List (State Bits)) (conflicts : List (Conflict Bits)) : Type 0 where
  pub all : conflicts ≡ flat_map (state_conflicts terminals) states
  pub some : conflicts ≢ []

-- the list has the conflicts of each state, after those of the states before it;
-- which lists have the conflicts of a state is a parameter
pub data ListsAll {L : Type 0} (lists : State L → List TerminalString → List (Conflict L) → Type 0) (terminals : List TerminalString) : List (State L) → List (Conflict L) → Type 0 where
  none : ListsAll lists terminals [] []
  more : {before all : List (State L)} {old new : List (Conflict L)} (state : State L) (own : List (Conflict L)) → ListsAll lists terminals before old → lists state terminals own → all ≡ before ++ state ∷ [] → new ≡ old ++ own → ListsAll lists terminals all new

-- an error has the states and the conflicts, of which there are some;
-- an allocation failure says nothing
abbrev pub FailWith : {L : Type 0} → List (State L) → List (Conflict L) → BuildError L → Type 0
FailWith states conflicts = IfConflicts (λ error. (error.states.items ≡ states) × (error.conflicts.items ≡ conflicts) × (conflicts ≢ []))
