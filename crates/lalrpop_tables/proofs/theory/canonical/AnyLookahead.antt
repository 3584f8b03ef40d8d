-- The laws that lead from a construction with any lookahead to canonical states and to LR(0)
-- states.
use Rattle.std.proofs.Common.{ℕ, List, refl}
use Rattle.lalrpop_base.specs.Words.{Bits, rules_of, AreOwn}
use Rattle.lalrpop_construction.specs.Words.{AreLr0States, HasLr0States, FailsAfterLr0}
use Rattle.lalrpop_tables.proofs.Types.{BuildError, Grammar, Nil, NonterminalString, State}
use Rattle.lalrpop_tables.specs.Words.{IsKeptGrammar, AreSetTables, StopsWithSets, AreNilTables, StopsWithNil, lr0_construction}
use Rattle.lalrpop_construction.specs.Words.{AreCanonicalTables, FailsByConflicts}
use Rattle.lalrpop_construction.proofs.theory.canonical.CanonicalAnswers.{Set-tables, Set-fails}
use Rattle.lalrpop_grammar.proofs.theory.grammars.Grammars.{productions_own}
use Rattle.lalrpop_construction.proofs.theory.canonical.Lr0States.{nothing, never, stopped, Lists, Tables-lr0, Fails-lr0}
use Rattle.lalrpop_construction.proofs.theory.early_stop.MadeUntil.{Stops-fail}
use Rattle.lalrpop_construction.proofs.theory.early_stop.StoppedLr0.{stopped_after_lr0}

module _ (g : Grammar) (start : NonterminalString) (kept : IsKeptGrammar g) where
  own : AreOwn g
  own = productions_own g kept.well_formed kept.names

  -- ---- with sets of tokens
  pub Law-set-tables : (tables : List (State Bits)) → AreSetTables g start tables → AreCanonicalTables g start tables
  Law-set-tables tables t = Set-tables g start kept.well_formed own kept.terminals tables t

  pub Law-set-errors : (stop_after : ℕ) (error : BuildError Bits) → StopsWithSets g start stop_after error → FailsByConflicts stop_after g start error
  Law-set-errors stop_after error f = Set-fails g start kept.well_formed own kept.terminals stop_after error f

  -- ---- without lookahead
  pub Law-nil-tables : (lookahead : Nil) (tables : List (State Nil)) → AreNilTables g start lookahead tables → AreLr0States (rules_of g) start tables
  Law-nil-tables lookahead tables t = Tables-lr0 g start lookahead kept.well_formed own tables t

  pub Law-nil-errors : (lookahead : Nil) (error : BuildError Nil) → StopsWithNil g start lookahead 0 error → HasLr0States (rules_of g) start error
  Law-nil-errors lookahead error f = Fails-lr0 g start lookahead kept.well_formed own error (Stops-fail nothing never stopped Lists (record { construction = lr0_construction g start lookahead; stop_after = 0 }) error refl f)

  pub Law-nil-stops : (lookahead : Nil) (stop_after : ℕ) (error : BuildError Nil) → StopsWithNil g start lookahead stop_after error → FailsAfterLr0 (rules_of g) start stop_after error
  Law-nil-stops lookahead stop_after error f = stopped_after_lr0 g start lookahead kept.well_formed own stop_after error f
