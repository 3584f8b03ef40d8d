-- The main contract, from a grammar to its trees: LR(1) grammars have deterministic parsers (Knuth
-- 1965), in the terms of this library.
use Rattle.std.specs.Prelude.{◌≡◌, ℕ, ◌≤◌, List, Result, IfOk, IfErr}
use Rattle.lalrpop_base.specs.Words.{Bits, contents, HasOutcome, beside, no_trees, leaves, nodes, IsLR1, IsLALR1, productions}
use Rattle.lalrpop_states.specs.declared.lr1_core.state.State.{State}
use Rattle.lalrpop_grammar.specs.declared.repr.NonterminalString.{NonterminalString}
use Rattle.lalrpop_grammar.specs.declared.repr.TerminalString.{TerminalString}
use Rattle.lalrpop_grammar.specs.declared.repr.grammar.Grammar.{Grammar}
use Rattle.lalrpop_tables.specs.Words.{Collapses, AreTablesOf}
use Rattle.lalrpop_construction.specs.declared.options.Options.{Options}
use Rattle.lalrpop_parser.specs.runs.FaithfulAnswers.{IsCutOff}
use Rattle.lalrpop_lr1.specs.runs.ParseAnswers.{ReportsParseOutcome, IfParseLimit}
use Rattle.lalrpop_parser.specs.trees.ParseTrees.{tree_of}
use Rattle.lalrpop_lr1.specs.declared.headline.parse_error.ParseError.{ParseError}
use Rattle.lalrpop_parser.specs.declared.interpret.tree.ParseTree.{ParseTree}

-- the grammar is LR(1), or LALR(1) if its states are collapsed
pub record IsAccepted (collapsed : Type 0) (g : Grammar) (start : NonterminalString) : Type 0 where
  pub lr1 : ¬ collapsed → IsLR1 (productions g) start
  pub lalr1 : collapsed → IsLALR1 (productions g) start

-- the result is the outcome of the run by the grammar's tables. A tree has the list as its leaves,
-- and its nodes are within the limit. The limit means that another step would pass it
pub record IsOutcomeByTables (g : Grammar) (options : Options) (start : NonterminalString) (w : List TerminalString) (limit : ℕ) (answer : Result ParseTree ParseError) : Type 0 where
  pub tables : List (State Bits)
  pub made : AreTablesOf (Collapses g options) options.method options.max_copies g start tables
  pub told : ReportsParseOutcome (HasOutcome (contents g.terminals tables) w limit) answer
  pub of_list : IfOk answer (λ tree. leaves (beside (tree_of tree) no_trees) ≡ w)
  pub within : IfOk answer (λ tree. nodes (beside (tree_of tree) no_trees) ≤ limit)
  pub cut_off : IfErr answer (IfParseLimit (IsCutOff (contents g.terminals tables) w limit))
