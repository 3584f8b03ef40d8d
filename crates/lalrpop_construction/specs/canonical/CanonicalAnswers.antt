-- The results of the canonical construction of LR(1) tables (Knuth 1965): tables, or states with
-- their conflicts.
use Rattle.std.specs.Prelude.{◌≡◌, ◌<◌, ◌-◌, ◌^◌, ℕ, nat_lt, cond, List, length}
use Rattle.lalrpop_base.specs.Words.{Bits, AreCoherent, contents, IfConflicts, AreFaithful, IsLR1, productions, rules_of}
use Rattle.lalrpop_construction.specs.construction.EarlyStop.{AreSomeCanonicalStates, StopsAfter}
use Rattle.lalrpop_construction.specs.construction.Results.{AreStatesOf, AreTables, canonical_of}
use Rattle.lalrpop_construction.specs.states.Canonical.{AreCanonicalStates, AreOrderedCanonical}
use Rattle.lalrpop_construction.specs.conflicts.CanonicalConflicts.{AreConflictsOfFailure}
use Rattle.lalrpop_base.specs.Words.{AreAllConflicts}
use Rattle.lalrpop_states.specs.declared.lr1_core.state.BuildError.{BuildError}
use Rattle.lalrpop_states.specs.declared.lr1_core.state.Conflict.{Conflict}
use Rattle.lalrpop_states.specs.declared.lr1_core.state.State.{State}
use Rattle.lalrpop_states.specs.declared.lr1_core.state.TableConstructionError.{TableConstructionError}
use Rattle.lalrpop_grammar.specs.declared.repr.NonterminalString.{NonterminalString}
use Rattle.lalrpop_grammar.specs.declared.repr.grammar.Grammar.{Grammar}
use Rattle.lalrpop_construction.specs.declared.construction.tables_or_count.TablesOrCount.{TablesOrCount}
use Rattle.lalrpop_construction.specs.declared.construction.tables_or_count.TablesOrCount.TheVariants.{Tables, Conflicts}

-- the states are canonical tables of the grammar, numbered in the order of their construction
pub record AreCanonicalTables (g : Grammar) (start : NonterminalString) (tables : List (State Bits)) : Type 0 where
  -- the states are coherent, and there is one
  pub coherent : AreCoherent tables
  pub some : 0 < length tables
  -- no prefix and token have two valid actions;
  -- each live prefix leads to a state with exactly its valid dotted productions, transitions and
  -- reductions
  pub lr1 : IsLR1 (productions g) start
  pub faithful : AreFaithful (productions g) start (contents g.terminals tables)
  -- each state is that of a live prefix, with exactly its valid items and their tokens;
  -- they are all canonical states, and they were built by the construction
  pub valid : AreSomeCanonicalStates (rules_of g) start tables
  pub canonical : AreOrderedCanonical g start tables
  pub built : AreTables (canonical_of g start) tables

-- the error has the states and conflicts of a grammar for which there are no tables;
-- without early stop, these are all canonical states, with exactly the canonical conflicts
pub record HasCanonicalConflicts (stop_after : ℕ) (g : Grammar) (start : NonterminalString) (error : TableConstructionError Bits) : Type 0 where
  -- some prefix and token have two valid actions
  pub not_lr1 : ¬ IsLR1 (productions g) start
  -- without early stop, the error has the canonical states and the canonical conflicts
  pub canonical : stop_after ≡ 0 → AreCanonicalStates (rules_of g) start error.states.items
  pub built : stop_after ≡ 0 → AreStatesOf (canonical_of g start) error.states.items
  pub all : stop_after ≡ 0 → AreAllConflicts g.terminals error.states.items error.conflicts.items
  pub conflicts : stop_after ≡ 0 → AreConflictsOfFailure g start error.states.items error.conflicts.items
  -- with early stop, it has the states that were made before it, and their conflicts
  pub stopped : StopsAfter (rules_of g) start stop_after error.states.items error.conflicts.items

-- the error has such states and conflicts; an allocation failure says nothing
abbrev pub FailsByConflicts : ℕ → Grammar → NonterminalString → BuildError Bits → Type 0
FailsByConflicts stop_after g start = IfConflicts (HasCanonicalConflicts stop_after g start)

-- the states and conflicts are those of a grammar for which there are no tables;
-- they are all its canonical states, and exactly its canonical conflicts, of which there are some
pub record LacksTables (g : Grammar) (start : NonterminalString) (states : List (State Bits)) (listed : List (Conflict Bits)) : Type 0 where
  -- some prefix and token have two valid actions
  pub not_lr1 : ¬ IsLR1 (productions g) start
  pub canonical : AreCanonicalStates (rules_of g) start states
  pub built : AreStatesOf (canonical_of g start) states
  pub all : AreAllConflicts g.terminals states listed
  pub conflicts : AreConflictsOfFailure g start states listed

-- a number, or the greatest of 64 bits if it is greater
abbrev pub up_to_greatest : ℕ → ℕ
up_to_greatest n = cond (nat_lt n (2 ^ 64)) n (2 ^ 64 - 1)

-- there are no tables for the grammar, and the number is that of the conflicts of its canonical
-- states, or the greatest number of 64 bits if they have more
pub record IsConflictCount (g : Grammar) (start : NonterminalString) (n : ℕ) : Type 0 where
  pub states : List (State Bits)
  pub listed : List (Conflict Bits)
  pub lacks : LacksTables g start states listed
  pub counted : n ≡ up_to_greatest (length listed)

-- if the result is tables, they have the first property; if it is a number of conflicts, that has
-- the second
abbrev pub MatchTablesOrCount : (List (State Bits) → Type 0) → (ℕ → Type 0) → TablesOrCount → Type 0
MatchTablesOrCount AreMade IsNumber (Tables tables) = AreMade tables.items
MatchTablesOrCount AreMade IsNumber (Conflicts n) = IsNumber n

-- the result is canonical tables of the grammar, or the number of its canonical conflicts
abbrev pub AreCanonicalTablesOrCount : Grammar → NonterminalString → TablesOrCount → Type 0
AreCanonicalTablesOrCount g start = MatchTablesOrCount (AreCanonicalTables g start) (IsConflictCount g start)
