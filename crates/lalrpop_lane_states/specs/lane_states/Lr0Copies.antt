-- The LR(0) states of a grammar, and copies of some of them, which lane tables need if two actions
-- share a token (Pager 1977).
use Rattle.std.specs.Prelude.{◌≡◌, ◌≤◌, ◌<◌, ◌+◌, ℕ, false, List, length}
use Rattle.std.specs.List.{flat_map}
use Rattle.lalrpop_base.specs.Words.{AreClosed, AreCoherent, Bits, contents, IfConflicts, ReducesFinished, Rules, state_conflicts, AreAllConflictFree}
use Rattle.lalrpop_states.specs.declared.lr1_core.state.BuildError.{BuildError}
use Rattle.lalrpop_states.specs.declared.lr1_core.state.Conflict.{Conflict}
use Rattle.lalrpop_states.specs.declared.lr1_core.state.State.{State}
use Rattle.lalrpop_grammar.specs.declared.repr.NonterminalString.{NonterminalString}
use Rattle.lalrpop_lane_states.specs.lane_states.LaneStates.{AreLaneStates}
use Rattle.lalrpop_state_graph.specs.graphs.Copies.{AreCopies}

-- the states are the LR(0) states of the grammar with all tokens on the items, and after these at
-- most so many copies. Each state has the dotted productions and the reduced productions of its
-- original, and its edges lead to copies of the states to which the original's edges lead
pub record AreLr0Copies (g : Rules) (start : NonterminalString) (copies : ℕ) (states : List (State Bits)) : Type 0 where
  pub handed : List (State Bits)
  pub made : AreLaneStates g start handed
  pub originals : List ℕ
  pub each : AreCopies false handed originals states
  pub counted : length states ≤ length handed + copies

-- the properties of such states that the definitions name: they are coherent, there is one, each is
-- the closure of its kernel, and each reduces its finished items. Each edge leads to the closure of
-- the moved items
pub record AreClosedTables (g : Rules) (start : NonterminalString) (states : List (State Bits)) : Type 0 where
  pub coherent : AreCoherent states
  pub some : 0 < length states
  pub closed : AreClosed g.productions start (contents g.terminals states)
  pub reduces : (n : ℕ) → ReducesFinished (contents g.terminals states n)

-- the states are such, and none has a conflict
pub record AreCopiedTables (g : Rules) (start : NonterminalString) (copies : ℕ) (states : List (State Bits)) : Type 0 where
  pub made : AreLr0Copies g start copies states
  pub closed : AreClosedTables g start states
  pub free : AreAllConflictFree g.terminals states

-- there are such states, and one of them has a conflict
pub record HaveCopiedConflict (g : Rules) (start : NonterminalString) (copies : ℕ) : Type 0 where
  pub states : List (State Bits)
  pub made : AreLr0Copies g start copies states
  pub some : ¬ AreAllConflictFree g.terminals states

-- the states are such, and the conflicts are those of each state, in the order of the states; there
-- is one
pub record AreCopiedConflicts (g : Rules) (start : NonterminalString) (copies : ℕ) (states : List (State Bits)) (conflicts : List (Conflict Bits)) : Type 0 where
  pub made : AreLr0Copies g start copies states
  pub closed : AreClosedTables g start states
  pub all : conflicts ≡ flat_map (state_conflicts g.terminals) states
  pub some : 0 < length conflicts

-- an error with conflicts has such states and conflicts; an allocation failure says nothing
abbrev pub FailsByCopies : Rules → NonterminalString → ℕ → BuildError Bits → Type 0
FailsByCopies g start copies = IfConflicts (λ error. AreCopiedConflicts g start copies error.states.items error.conflicts.items)
