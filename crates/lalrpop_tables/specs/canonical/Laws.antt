-- What the construction of states promises for any lookahead, stated with sets of tokens and
-- without lookahead. Public functions state these laws.
use Rattle.std.specs.Prelude.{ℕ, List}
use Rattle.std.specs.BTreeMap.{IsOrdered}
use Rattle.lalrpop_base.specs.Words.{Bits, AllDiffer, IsWellFormed, name_cmp, rules_of, productions_of}
use Rattle.lalrpop_construction.specs.Words.{FailsAfterLr0, StopsFor, AreTablesFor, Construction}
use Rattle.lalrpop_construction.specs.Words.{canonical_of, AreLr0States, HasLr0States, HaveNoNilConflict, ListsNilConflicts}
use Rattle.lalrpop_states.specs.contracts.lookahead.nil.NilLookahead.TheImpl as nil_lookahead
use Rattle.lalrpop_states.specs.contracts.lookahead.token_lookahead.TokenSetLookahead.TheImpl as set_lookahead
use Rattle.lalrpop_states.specs.declared.lookahead.nil.Nil.{Nil}
use Rattle.lalrpop_states.specs.declared.lr1_core.state.BuildError.{BuildError}
use Rattle.lalrpop_states.specs.declared.lr1_core.state.State.{State}
use Rattle.lalrpop_grammar.specs.declared.repr.NonterminalString.{NonterminalString}
use Rattle.lalrpop_grammar.specs.declared.repr.grammar.Grammar.{Grammar}
use Rattle.lalrpop_construction.specs.canonical.CanonicalAnswers.{AreCanonicalTables, FailsByConflicts}
use Rattle.lalrpop_construction.specs.contracts.construction.epsilon_moves.NilLookaheadBuild.TheImpl as nil_build
use Rattle.lalrpop_construction.specs.contracts.construction.epsilon_moves.TokenSetLookaheadBuild.TheImpl as set_build

-- the grammar is well-formed, its names ascend in its map, and its terminals differ
pub record IsKeptGrammar (g : Grammar) : Type 0 where
  pub well_formed : IsWellFormed g
  pub names : IsOrdered name_cmp g.nonterminals
  pub terminals : AllDiffer g.terminals

-- ---- with sets of tokens
-- the states are as the construction with sets of tokens promises, if Eof follows the start symbol
abbrev pub AreSetTables : Grammar → NonterminalString → List (State Bits) → Type 0
AreSetTables g start =
    AreTablesFor set_lookahead.ghosts.meaning set_build.ghosts.begins set_build.ghosts.passes
    set_lookahead.ghosts.lists_conflicts (canonical_of g start)

-- the error is as the construction with sets of tokens promises, with a stop after so many
-- conflicts
abbrev pub StopsWithSets : Grammar → NonterminalString → ℕ → BuildError Bits → Type 0
StopsWithSets g start stop_after =
    StopsFor set_lookahead.ghosts.meaning set_build.ghosts.begins set_build.ghosts.passes
    set_lookahead.ghosts.lists_conflicts
    (record { construction = canonical_of g start; stop_after = stop_after })

-- states of the construction with sets of tokens are the tables of the canonical method
abbrev pub SetTablesAreCanonical : Type 0
SetTablesAreCanonical =
    (g : Grammar) (start : NonterminalString) → IsKeptGrammar g → (tables : List (State Bits)) →
    AreSetTables g start tables → AreCanonicalTables g start tables

-- an error of the construction with sets of tokens has the states and conflicts of a grammar
-- without tables
abbrev pub SetErrorsAreCanonical : Type 0
SetErrorsAreCanonical =
    (g : Grammar) (start : NonterminalString) (stop_after : ℕ) → IsKeptGrammar g →
    (error : BuildError Bits) → StopsWithSets g start stop_after error →
    FailsByConflicts stop_after g start error

-- ---- without lookahead
-- the construction of states without lookahead
abbrev pub lr0_construction : Grammar → NonterminalString → Nil → Construction Nil
lr0_construction g start lookahead =
    record { rules = rules_of g; start = start; first = productions_of g start; lookahead = lookahead }

-- the states are as the construction without lookahead promises
abbrev pub AreNilTables : Grammar → NonterminalString → Nil → List (State Nil) → Type 0
AreNilTables g start lookahead =
    AreTablesFor nil_lookahead.ghosts.meaning nil_build.ghosts.begins nil_build.ghosts.passes
    nil_lookahead.ghosts.lists_conflicts (lr0_construction g start lookahead)

-- the error is as the construction without lookahead promises, with a stop after so many conflicts
abbrev pub StopsWithNil : Grammar → NonterminalString → Nil → ℕ → BuildError Nil → Type 0
StopsWithNil g start lookahead stop_after =
    StopsFor nil_lookahead.ghosts.meaning nil_build.ghosts.begins nil_build.ghosts.passes
    nil_lookahead.ghosts.lists_conflicts
    (record { construction = lr0_construction g start lookahead; stop_after = stop_after })

-- states of the construction without lookahead are the LR(0) states
abbrev pub NilTablesAreLr0 : Type 0
NilTablesAreLr0 =
    (g : Grammar) (start : NonterminalString) (lookahead : Nil) → IsKeptGrammar g →
    (tables : List (State Nil)) → AreNilTables g start lookahead tables →
    AreLr0States (rules_of g) start tables

-- states of the construction without lookahead have no conflict
abbrev pub NilTablesAreFree : Type 0
NilTablesAreFree =
    (g : Grammar) (start : NonterminalString) (lookahead : Nil) (tables : List (State Nil)) →
    AreNilTables g start lookahead tables → HaveNoNilConflict tables

-- without early stop, an error of the construction without lookahead has the LR(0) states
abbrev pub NilErrorsHaveLr0 : Type 0
NilErrorsHaveLr0 =
    (g : Grammar) (start : NonterminalString) (lookahead : Nil) → IsKeptGrammar g →
    (error : BuildError Nil) → StopsWithNil g start lookahead 0 error →
    HasLr0States (rules_of g) start error

-- with early stop, an error of the construction without lookahead has the states that were made
-- until the stop
abbrev pub NilErrorsStop : Type 0
NilErrorsStop =
    (g : Grammar) (start : NonterminalString) (lookahead : Nil) (stop_after : ℕ) →
    IsKeptGrammar g → (error : BuildError Nil) → StopsWithNil g start lookahead stop_after error →
    FailsAfterLr0 (rules_of g) start stop_after error

-- an error of the construction without lookahead lists the conflicts of its states
abbrev pub NilErrorsListConflicts : Type 0
NilErrorsListConflicts =
    (g : Grammar) (start : NonterminalString) (lookahead : Nil) (stop_after : ℕ)
    (error : BuildError Nil) → StopsWithNil g start lookahead stop_after error →
    ListsNilConflicts error
