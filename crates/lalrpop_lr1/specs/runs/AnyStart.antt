-- Parsing for any start symbol, by a grammar with a new one above it. The definitions say for the
-- old start symbol what `parse` promises of a start symbol on no right side. The node of the new
-- one is no part of the trees, but counts against the limit.
use Rattle.std.specs.Prelude.{◌≡◌, ℕ, ◌<◌, ◌≤◌, List, not, Result, refl}
use Rattle.std.specs.BTreeMap.{is_at}
use Rattle.std.specs.Coded.{Coded, code_by, coded×, coded_list}
use Rattle.std.specs.List.{filter}
use Rattle.lalrpop_base.specs.Words.{IsAugmented, Bits, contents, IsOnNoRightSide, Outcome, Parsed, HasOutcome, Refused as RefusedIn, Limit as CutOff, Tree}
use Rattle.lalrpop_base.specs.Words.{Node, beside, no_trees, nodes, IsParseTree, IsWellFormed, name_cmp, productions}
use Rattle.lalrpop_grammar.specs.contracts.repr.NonterminalString as name
use Rattle.lalrpop_grammar.specs.contracts.repr.Production as production
use Rattle.lalrpop_grammar.specs.contracts.repr.grammar.Grammar as whole
use Rattle.lalrpop_states.specs.declared.lr1_core.state.State.{State}
use Rattle.lalrpop_grammar.specs.declared.repr.NonterminalString.{NonterminalString}
use Rattle.lalrpop_grammar.specs.declared.repr.Production.{Production}
use Rattle.lalrpop_grammar.specs.declared.repr.TerminalString.{TerminalString}
use Rattle.lalrpop_grammar.specs.declared.repr.grammar.Grammar.{Grammar}
use Rattle.lalrpop_tables.specs.Words.{Collapses, AreTablesOf}
use Rattle.lalrpop_construction.specs.declared.options.Options.{Options}
use Rattle.lalrpop_lr1.specs.runs.ParseAnswers.{ReportsParseOutcome}
use Rattle.lalrpop_lr1.specs.declared.headline.parse_error.ParseError.{ParseError}
use Rattle.lalrpop_parser.specs.declared.interpret.tree.ParseTree.{ParseTree}

-- a grammar with a new start symbol, its old productions, and the start symbol that the new one is
-- above
pub record Augmented : Type 0 where
  pub old_productions : List Production
  pub old_start : NonterminalString
  pub grammar : Grammar
  pub start : NonterminalString

-- such a grammar is coded as its fields beside one another
abbrev pub augmented_code : Coded Augmented
augmented_code =
    code_by (List Production × (NonterminalString × (Grammar × NonterminalString))) (coded× (coded_list production.the_row.coded) (coded× name.the_row.coded (coded× whole.the_row.coded name.the_row.coded)))
    (λ a. (a.old_productions, (a.old_start, (a.grammar, a.start)))) (λ p. record { old_productions = p.0; old_start = p.1.0; grammar = p.1.1.0; start = p.1.1.1 }) (λ _. refl)

-- the productions of all nonterminals but one
abbrev pub productions_but : NonterminalString → List Production → List Production
productions_but a ps = filter (λ (p : Production). not (is_at (name_cmp a) p.nonterminal)) ps

-- a grammar with a start symbol, and its productions without those of this symbol
abbrev pub seen_over : NonterminalString → Grammar → NonterminalString → Augmented
seen_over old_start g f = record { old_productions = productions_but f (productions g); old_start = old_start; grammar = g; start = f }

-- the grammar is well-formed, and has one production more than before, from the new start symbol to
-- the old
pub record IsAboveOld (a : Augmented) : Type 0 where
  pub well_formed : IsWellFormed a.grammar
  pub augmented : IsAugmented a.old_productions (productions a.grammar) a.old_start a.start

-- the tree is a parse tree of the list with fewer nodes than the limit
pub record IsTreeBelow (limit : ℕ) (w : List TerminalString) (t : Tree) (g : List Production) (start : NonterminalString) : Type 0 where
  pub parse : IsParseTree g start w t
  pub below : nodes (beside t no_trees) < limit

-- the outcome for a list with a parse tree: the tree if its nodes are fewer than the limit, else
-- the limit
abbrev pub IsOutcomeBelow : Tree → ℕ → Outcome → Type 0
IsOutcomeBelow t limit (Parsed u) = (u ≡ t) × (nodes (beside t no_trees) < limit)
IsOutcomeBelow t limit (RefusedIn n token) = ⊥
IsOutcomeBelow t limit CutOff = limit ≤ nodes (beside t no_trees)

-- the result for a list with a parse tree is the tree if its nodes are fewer than the limit, else
-- the limit; nothing is said of conflicts and of an allocation failure
abbrev pub TellsTreesBelow : ℕ → List TerminalString → Result ParseTree ParseError → List Production → NonterminalString → Type 0
TellsTreesBelow limit w answer g start =
    (t : Tree) → IsParseTree g start w t → ReportsParseOutcome (IsOutcomeBelow t limit) answer

-- the outcome with a node of the new start symbol above its tree
abbrev pub above : NonterminalString → Outcome → Outcome
above f (Parsed t) = Parsed (Node f (beside t no_trees))
above f (RefusedIn n token) = RefusedIn n token
above f CutOff = CutOff

-- the result is the outcome of the run by the grammar's tables, without the node of the new start
-- symbol, which is on no right side
pub record IsOutcomeByTablesAbove (g : Grammar) (options : Options) (f : NonterminalString) (w : List TerminalString) (limit : ℕ) (answer : Result ParseTree ParseError) : Type 0 where
  pub tables : List (State Bits)
  pub made : AreTablesOf (Collapses g options) options.method options.max_copies g f tables
  pub alone : IsOnNoRightSide (productions g) f
  pub told : ReportsParseOutcome (λ o. HasOutcome (contents g.terminals tables) w limit (above f o)) answer
