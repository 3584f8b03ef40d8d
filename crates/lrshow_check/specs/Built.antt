-- The tables of a grammar, or its conflicts.
use Rattle.std.specs.Prelude.{◌≡◌, ◌⊎◌, ℕ, List, []}
use Rattle.lalrpop_base.specs.Words.{Bits}
use Rattle.lalrpop_states.specs.declared.lr1_core.state.Conflict.{Conflict}
use Rattle.lalrpop_states.specs.declared.lr1_core.state.State.{State}
use Rattle.lalrpop_states.specs.declared.lr1_core.state.TableConstructionError.{TableConstructionError}
use Rattle.lalrpop_grammar.specs.declared.repr.NonterminalString.{NonterminalString}
use Rattle.lalrpop_grammar.specs.declared.repr.grammar.Grammar.{Grammar}
use Rattle.lalrpop_tables.specs.Words.{AreTablesOf, HasConflictsOf}
use Rattle.lalrpop_construction.specs.declared.options.Method.{Method}
use Rattle.program_answers.specs.Texts.{most_copies}

-- the tables that the method makes were built, without a conflict and with status 0
pub record AreBuiltTables (method : Method) (g : Grammar) (start : NonterminalString) (status : ℕ) (states : List (State Bits)) (conflicts : List (Conflict Bits)) : Type 0 where
  pub tables : AreTablesOf ⊥ method most_copies g start states
  pub ended : status ≡ 0
  pub free : conflicts ≡ []

-- or, if there are no tables, the canonical states and conflicts were built, with status 1
pub record AreBuiltConflicts (g : Grammar) (start : NonterminalString) (status : ℕ) (states : List (State Bits)) (conflicts : List (Conflict Bits)) : Type 0 where
  pub error : TableConstructionError Bits
  pub no_tables : HasConflictsOf ⊥ 0 g start error
  pub ended : status ≡ 1
  pub of_states : states ≡ error.states.items
  pub of_conflicts : conflicts ≡ error.conflicts.items

-- tables were built, or states with conflicts
abbrev pub AreBuilt : Method → Grammar → NonterminalString → ℕ → List (State Bits) → List (Conflict Bits) → Type 0
AreBuilt method g start status states conflicts = AreBuiltTables method g start status states conflicts ⊎ AreBuiltConflicts g start status states conflicts
