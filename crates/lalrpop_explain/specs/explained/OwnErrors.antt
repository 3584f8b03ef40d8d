-- The conditions under which conflicts are explained: the productions of states and conflicts are
-- those of the grammar.
use Rattle.std.specs.Prelude.{List, Contains}
use Rattle.lalrpop_base.specs.Words.{Bits, Dotted, Rules, HasKnownTerminals}
use Rattle.lalrpop_states.specs.declared.lr1_core.state.Conflict.{Conflict}
use Rattle.lalrpop_states.specs.declared.lr1_core.state.State.{State}
use Rattle.lalrpop_states.specs.declared.lr1_core.state.StateIndex.{StateIndex}
use Rattle.lalrpop_states.specs.declared.lr1_core.state.TableConstructionError.{TableConstructionError}
use Rattle.lalrpop_grammar.specs.declared.repr.Production.{Production}
use Rattle.lalrpop_lanes.specs.Words.{ReducesOwn}
use Rattle.lalrpop_traces.specs.Words.{StandsIn}

-- the terminals of the grammar's productions have bits, and each item of the states has one of
-- these productions
pub record AreOwnStates (g : Rules) (states : List (State Bits)) : Type 0 where
  pub known : (p : Production) → Contains g.productions p → HasKnownTerminals g.terminals p.symbols
  pub items : (n : StateIndex) (i : Dotted Bits) → StandsIn states n i → Contains g.productions i.production

-- the reductions of a conflict are by productions of a list
pub record IsOwnConflict (productions : List Production) (c : Conflict Bits) : Type 0 where
  pub production : Contains productions c.production.now
  pub action : ReducesOwn productions c.action

-- the reductions of each of the conflicts are by productions of a list
abbrev pub AreOwnConflicts : List Production → List (Conflict Bits) → Type 0
AreOwnConflicts productions conflicts = (c : Conflict Bits) → Contains conflicts c → IsOwnConflict productions c

-- the states and the conflicts of an error are over the productions of the grammar
pub record IsOwnError (g : Rules) (error : TableConstructionError Bits) : Type 0 where
  pub states : AreOwnStates g error.states.items
  pub conflicts : AreOwnConflicts g.productions error.conflicts.items
