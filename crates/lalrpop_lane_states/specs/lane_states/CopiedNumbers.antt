-- Copies of states, by number.
use Rattle.std.specs.Prelude.{◌≡◌, ◌<◌, ℕ, true, List, [], ◌∷◌, length, slice_get, Option, Some, None, Contains}
use Rattle.std.specs.List.{flat_map}
use Rattle.lalrpop_base.specs.Words.{Bits, Contents, contents_of, leads}
use Rattle.lalrpop_grammar.specs.declared.lookahead.token.Token.{Token}
use Rattle.lalrpop_grammar.specs.declared.repr.Symbol.{Symbol}
use Rattle.lalrpop_states.specs.declared.lr1_core.state.State.{State}
use Rattle.lalrpop_construction.specs.declared.construction.numbered_state.NumberedState.{NumberedState}

-- the contents of a state, with reductions on any token
abbrev pub place_of : State Bits → Contents
place_of state = contents_of (λ lookahead (t : Token). true) state

-- a list with the transition to the target, if there is one
abbrev pub edge_to : ℕ → Option ℕ → List (ℕ × ℕ)
edge_to x None = []
edge_to x (Some m) = (x, m) ∷ []

-- a list with the transition of the state over the symbol, if there is one
abbrev pub edge_over : Contents → ℕ → Option Symbol → List (ℕ × ℕ)
edge_over place x None = []
edge_over place x (Some s) = edge_to x (leads place s)

-- a list with the transition of the state over the symbol of a transition, if there is one
abbrev pub copied_edge : List Symbol → State Bits → ℕ × ℕ → List (ℕ × ℕ)
copied_edge symbols state e = edge_over (place_of state) e.0 (slice_get symbols e.0)

-- the transitions of the state over the symbols of these transitions, in their order
abbrev pub copied_edges : List Symbol → State Bits → List (ℕ × ℕ) → List (ℕ × ℕ)
copied_edges symbols state es = flat_map (copied_edge symbols state) es

-- the symbols of the transitions have numbers
abbrev pub AreOverSymbols : List Symbol → List (ℕ × ℕ) → Type 0
AreOverSymbols symbols es = (x m : ℕ) → Contains es (x, m) → x < length symbols

-- the new state by number has the numbers of the old one, and the transitions of the state
pub record IsCopyByNumber (symbols : List Symbol) (old : NumberedState) (state : State Bits) (new : NumberedState) : Type 0 where
  pub items : new.items.items ≡ old.items.items
  pub edges : new.edges.items ≡ copied_edges symbols state old.edges.items
  pub reductions : new.reductions.items ≡ old.reductions.items

-- the original of the state with the number n is one of the states by number, and the new state is
-- its copy
pub record IsCopiedAt (symbols : List Symbol) (numbered : List NumberedState) (originals : List ℕ) (n : ℕ) (state : State Bits) (new : NumberedState) : Type 0 where
  pub original : ℕ
  pub old : NumberedState
  pub of : slice_get originals n ≡ Some original
  pub there : slice_get numbered original ≡ Some old
  pub copy : IsCopyByNumber symbols old state new

-- the list has the states by number, in order
pub record AreCopiedByNumber (symbols : List Symbol) (numbered : List NumberedState) (originals : List ℕ) (states : List (State Bits)) (list : List NumberedState) : Type 0 where
  pub counted : length list ≡ length states
  pub each : (n : ℕ) (state : State Bits) (new : NumberedState) → slice_get states n ≡ Some state → slice_get list n ≡ Some new → IsCopiedAt symbols numbered originals n state new
