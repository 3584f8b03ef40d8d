-- The tokens and the states of a cause.
use Rattle.std.specs.Prelude.{◌≡◌, ◌↔◌, ◌⊎◌, ℕ, List, [], ◌∷◌, slice_get, Some, Contains, IsTrue}
use Rattle.lalrpop_collections.specs.lists.Bits.{Bits, has}
use Rattle.lalrpop_states.specs.declared.lr1_core.state.Conflict.{Conflict}

-- something is true of a conflict of a cause
pub record HoldsOfOne (P : Conflict Bits → Type 0) (conflicts : List (Conflict Bits)) (cause : List ℕ) : Type 0 where
  pub number : ℕ
  pub conflict : Conflict Bits
  pub of_cause : Contains cause number
  pub there : slice_get conflicts number ≡ Some conflict
  pub holds : P conflict

-- a conflict of the cause has the bit in its lookahead
abbrev pub HasCauseBit : List (Conflict Bits) → List ℕ → ℕ → Type 0
HasCauseBit conflicts cause bit = HoldsOfOne (λ c. IsTrue (has c.lookahead bit)) conflicts cause

-- a conflict of the cause is in the state with the number
abbrev pub HasCauseState : List (Conflict Bits) → List ℕ → ℕ → Type 0
HasCauseState conflicts cause state = HoldsOfOne (λ c. c.state.0 ≡ state) conflicts cause

-- the set has the tokens of all conflicts of the cause, and no others
abbrev pub AreCauseTokens : List (Conflict Bits) → List ℕ → Bits → Type 0
AreCauseTokens conflicts cause set = (bit : ℕ) → IsTrue (has set bit) ↔ HasCauseBit conflicts cause bit

-- the list has the states of all conflicts of the cause, and no others
abbrev pub AreCauseStates : List (Conflict Bits) → List ℕ → List ℕ → Type 0
AreCauseStates conflicts cause numbers = (state : ℕ) → Contains numbers state ↔ HasCauseState conflicts cause state

-- the tokens of a conflict were added to a set, if there is a conflict with the number
abbrev pub AddsConflictTokens : List (Conflict Bits) → ℕ → Bits → Bits → Type 0
AddsConflictTokens conflicts number old new = (bit : ℕ) → IsTrue (has new bit) ↔ (IsTrue (has old bit) ⊎ HasCauseBit conflicts (number ∷ []) bit)

-- the state of a conflict was added to a set, if there is a conflict with the number
abbrev pub AddsState : List (Conflict Bits) → ℕ → List ℕ → List ℕ → Type 0
AddsState conflicts number old new = (state : ℕ) → Contains new state ↔ (Contains old state ⊎ HasCauseState conflicts (number ∷ []) state)
