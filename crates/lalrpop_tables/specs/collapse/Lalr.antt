-- LALR(1) tables: what the collapse of a grammar's canonical states says of the grammar.
use Rattle.std.specs.Prelude.{◌≡◌, ◌⊎◌, ℕ, List, IsTrue}
use Rattle.lalrpop_base.specs.Words.{Bits, AreCoherent, contents, IfConflicts, AreFaithful, IsLALR1, productions, rules_of}
use Rattle.lalrpop_construction.specs.Words.{FailsAfter, AreTables, canonical_of}
use Rattle.lalrpop_tables.specs.collapse.Collapsed.{AreOrdered, AreCollapsedTables, FailsByCollapse}
use Rattle.lalrpop_base.specs.Words.{AreRenumbered, AreAllConflictFree}
use Rattle.lalrpop_states.specs.declared.lr1_core.state.BuildError.{BuildError}
use Rattle.lalrpop_states.specs.declared.lr1_core.state.State.{State}
use Rattle.lalrpop_grammar.specs.declared.repr.NonterminalString.{NonterminalString}
use Rattle.lalrpop_grammar.specs.declared.repr.grammar.Grammar.{Grammar}
use Rattle.lalrpop_construction.specs.declared.options.Method.TheVariants.{Canonical}
use Rattle.lalrpop_construction.specs.declared.options.Options.{Options}

-- the states are to be collapsed: the grammar asks for it, and the method is the canonical one
pub record Collapses (g : Grammar) (options : Options) : Type 0 where
  pub asked : IsTrue g.algorithm.lalr
  pub canonical : options.method ≡ Canonical

-- the grammar is LALR(1), and the tables are faithful to it
pub record AreLalrTables (g : Grammar) (start : NonterminalString) (tables : List (State Bits)) : Type 0 where
  pub lalr : IsLALR1 (productions g) start
  pub faithful : AreFaithful (productions g) start (contents g.terminals tables)

-- the states of an error are coherent; nothing is said of an allocation failure
abbrev pub HasCoherentStates : BuildError Bits → Type 0
HasCoherentStates = IfConflicts (λ error. AreCoherent error.states.items)

-- the transitions of an error's states ascend; nothing is said of an allocation failure
abbrev pub HasOrderedStates : BuildError Bits → Type 0
HasOrderedStates = IfConflicts (λ error. AreOrdered error.states.items)

-- the tables are canonical states of the grammar without a conflict, merged into states without one
pub record AreMergedTables (g : Grammar) (start : NonterminalString) (tables : List (State Bits)) : Type 0 where
  pub before : List (State Bits)
  pub canonical : AreTables (canonical_of g start) before
  pub merged : AreCollapsedTables g.terminals before tables

-- the tables are such merged states, renumbered
pub record AreRenumberedMerged (g : Grammar) (start : NonterminalString) (tables : List (State Bits)) : Type 0 where
  pub built : List (State Bits)
  pub made : AreMergedTables g start built
  pub renumbered : AreRenumbered g.terminals built tables
  pub free : AreAllConflictFree g.terminals tables

-- the error is one of the collapse of canonical states without a conflict
pub record FailsMerged (g : Grammar) (start : NonterminalString) (error : BuildError Bits) : Type 0 where
  pub before : List (State Bits)
  pub canonical : AreTables (canonical_of g start) before
  pub merged : FailsByCollapse g.terminals before error

-- the error is one of the canonical construction, or of the collapse of what it makes
abbrev pub FailsAsLalr : Grammar → NonterminalString → ℕ → BuildError Bits → Type 0
FailsAsLalr g start stop_after error = FailsAfter (rules_of g) start stop_after error ⊎ FailsMerged g start error
