-- The results of the construction of tables, under the numbers of tables.
use Rattle.std.specs.Prelude.{◌≡◌, ◌<◌, ◌≤◌, ◌+◌, ℕ, List, length}
use Rattle.lalrpop_base.specs.Words.{Bits, Rules, AreRenumbered, AreAllConflictFree}
use Rattle.lalrpop_construction.specs.Words.{Construction, AreTables, AreLr0States}
use Rattle.lalrpop_states.specs.declared.lookahead.nil.Nil.{Nil}
use Rattle.lalrpop_states.specs.declared.lr1_core.state.State.{State}
use Rattle.lalrpop_grammar.specs.declared.repr.NonterminalString.{NonterminalString}
use Rattle.lalrpop_lane_states.specs.lane_states.LaneStates.{AreLaneTables, HaveFullItems}
use Rattle.lalrpop_lane_states.specs.lane_states.Lr0Copies.{AreCopiedTables}

-- the tables that a construction makes, renumbered; there is a state, and no state has a conflict
pub record AreRenumberedTables (c : Construction Bits) (tables : List (State Bits)) : Type 0 where
  pub built : List (State Bits)
  pub made : AreTables c built
  pub renumbered : AreRenumbered c.rules.terminals built tables
  pub some : 0 < length tables
  pub free : AreAllConflictFree c.rules.terminals tables

-- the lane tables of a grammar, renumbered; no state has a conflict, each item holds all tokens,
-- and there are as many states as LR(0) states
pub record AreRenumberedLaneTables (g : Rules) (start : NonterminalString) (tables : List (State Bits)) : Type 0 where
  pub built : List (State Bits)
  pub lanes : AreLaneTables g start built
  pub renumbered : AreRenumbered g.terminals built tables
  pub free : AreAllConflictFree g.terminals tables
  pub items : HaveFullItems g.terminals tables
  pub bare : List (State Nil)
  pub lr0 : AreLr0States g start bare
  pub counted : length tables ≡ length bare

-- LR(0) states of a grammar with at most so many copies, renumbered; no state has a conflict, and
-- each item holds all tokens
pub record AreRenumberedCopies (g : Rules) (start : NonterminalString) (copies : ℕ) (tables : List (State Bits)) : Type 0 where
  pub built : List (State Bits)
  pub copied : AreCopiedTables g start copies built
  pub renumbered : AreRenumbered g.terminals built tables
  pub free : AreAllConflictFree g.terminals tables
  pub items : HaveFullItems g.terminals tables
  pub bare : List (State Nil)
  pub lr0 : AreLr0States g start bare
  pub counted : length tables ≤ length bare + copies
