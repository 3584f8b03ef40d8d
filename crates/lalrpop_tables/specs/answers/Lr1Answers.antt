-- The results of a construction of LR(1) tables for a grammar and a start symbol: tables, or states
-- with their conflicts (Knuth 1965; DeRemer and Pennello 1982 for LALR(1)).
use Rattle.std.specs.Prelude.{◌≡◌, ◌⊎◌, ℕ, ◌<◌, List, length}
use Rattle.lalrpop_base.specs.Words.{Bits, AreCoherent, contents, IfConflicts, IsOnNoRightSide, AreFaithful, IsLR1, IsLALR1, productions, rules_of}
use Rattle.lalrpop_construction.specs.Words.{AreSomeCanonicalStates, StopsAfter, AreStatesOf, AreTables, canonical_of, AreCanonicalStates, AreOrderedCanonical}
use Rattle.lalrpop_construction.specs.Words.{AreConflictsOfFailure}
use Rattle.lalrpop_base.specs.Words.{AreAllConflicts}
use Rattle.lalrpop_states.specs.declared.lr1_core.state.BuildError.{BuildError}
use Rattle.lalrpop_states.specs.declared.lr1_core.state.BuildError.TheVariants.{Conflicts}
use Rattle.lalrpop_states.specs.declared.lr1_core.state.State.{State}
use Rattle.lalrpop_states.specs.declared.lr1_core.state.TableConstructionError.{TableConstructionError}
use Rattle.lalrpop_grammar.specs.declared.repr.NonterminalString.{NonterminalString}
use Rattle.lalrpop_grammar.specs.declared.repr.grammar.Grammar.{Grammar}
use Rattle.lalrpop_tables.specs.collapse.Lalr.{AreMergedTables, AreRenumberedMerged, FailsAsLalr}
use Rattle.lalrpop_lane_states.specs.lane_states.LaneStates.{AreLaneTables}
use Rattle.lalrpop_lane_states.specs.lane_states.Lr0Copies.{AreCopiedTables}
use Rattle.lalrpop_tables.specs.renumbering.RenumberedTables.{AreRenumberedCopies, AreRenumberedTables, AreRenumberedLaneTables}
use Rattle.lalrpop_construction.specs.declared.options.Method.{Method}
use Rattle.lalrpop_construction.specs.declared.options.Method.TheVariants.{Lane, Canonical}

-- the states are tables of a grammar by the method, collapsed or not. Four parameters say which
-- states are canonical tables, copies, lane tables and merged tables, since tables have other
-- numbers than their construction gave them
pub record AreTablesBy (Built Copies Lanes Merged : List (State Bits) → Type 0) (collapsed : Type 0) (method : Method) (g : Grammar) (start : NonterminalString) (tables : List (State Bits)) : Type 0 where
  -- the states are coherent, and there is at least one
  pub coherent : AreCoherent tables
  pub some : 0 < length tables
  -- no prefix and token have two valid actions, and each live prefix leads to a state with exactly
  -- its valid dotted productions, transitions and reductions
  pub lr1 : IsLR1 (productions g) start
  pub faithful : AreFaithful (productions g) start (contents g.terminals tables)
  -- by the canonical method there is a state for each live prefix, with exactly its valid items and
  -- their tokens
  pub valid : ¬ collapsed → method ≡ Canonical → AreSomeCanonicalStates (rules_of g) start tables
  pub canonical : ¬ collapsed → method ≡ Canonical → AreOrderedCanonical g start tables
  pub built : ¬ collapsed → method ≡ Canonical → Built tables
  -- if states are collapsed, the grammar is LALR(1), and the tables are merged canonical states
  pub lalr1 : collapsed → IsLALR1 (productions g) start
  pub merged : collapsed → Merged tables
  -- by the lane method they are LR(0) states with copies, or canonical states. If the grammar is
  -- LALR(1) and the start symbol is on no right side, they are its LR(0) states
  pub either : method ≡ Lane → Copies tables ⊎ Built tables
  pub lanes : method ≡ Lane → IsOnNoRightSide (productions g) start → IsLALR1 (productions g) start → Lanes tables

-- the states are tables by the method, under the numbers of tables, with at most so many copies
abbrev pub AreTablesOf : Type 0 → Method → ℕ → Grammar → NonterminalString → List (State Bits) → Type 0
AreTablesOf collapsed method copies g start = AreTablesBy (AreRenumberedTables (canonical_of g start)) (AreRenumberedCopies (rules_of g) start copies) (AreRenumberedLaneTables (rules_of g) start) (AreRenumberedMerged g start) collapsed method g start

-- the states are tables by the method, under the numbers of their construction
abbrev pub AreBuiltTablesOf : Type 0 → Method → ℕ → Grammar → NonterminalString → List (State Bits) → Type 0
AreBuiltTablesOf collapsed method copies g start = AreTablesBy (AreTables (canonical_of g start)) (AreCopiedTables (rules_of g) start copies) (AreLaneTables (rules_of g) start) (AreMergedTables g start) collapsed method g start

-- the error has the states and conflicts of a grammar without tables. If states are not collapsed,
-- these are canonical states with exactly their conflicts, and all such states if there is no early
-- stop. If states are collapsed, the error is one of the canonical construction or of the collapse
pub record HasConflictsOf (collapsed : Type 0) (stop_after : ℕ) (g : Grammar) (start : NonterminalString) (error : TableConstructionError Bits) : Type 0 where
  -- the grammar is not LR(1), or not LALR(1) if states are collapsed
  pub not_lr1 : ¬ collapsed → ¬ IsLR1 (productions g) start
  pub not_lalr1 : collapsed → ¬ IsLALR1 (productions g) start
  -- without early stop: all canonical states and all canonical conflicts
  pub canonical : ¬ collapsed → stop_after ≡ 0 → AreCanonicalStates (rules_of g) start error.states.items
  pub built : ¬ collapsed → stop_after ≡ 0 → AreStatesOf (canonical_of g start) error.states.items
  pub all : ¬ collapsed → stop_after ≡ 0 → AreAllConflicts g.terminals error.states.items error.conflicts.items
  pub conflicts : ¬ collapsed → stop_after ≡ 0 → AreConflictsOfFailure g start error.states.items error.conflicts.items
  -- with early stop: the states that were made until the stop, and their conflicts
  pub stopped : ¬ collapsed → StopsAfter (rules_of g) start stop_after error.states.items error.conflicts.items
  -- with a collapse: an error of the canonical construction, or of the collapse
  pub merged : collapsed → FailsAsLalr g start stop_after (Conflicts error)

-- an error has such states and conflicts; nothing is said of an allocation failure
abbrev pub FailsOn : Type 0 → ℕ → Grammar → NonterminalString → BuildError Bits → Type 0
FailsOn collapsed stop_after g start = IfConflicts (HasConflictsOf collapsed stop_after g start)
