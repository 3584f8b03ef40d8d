-- What the program shows of a grammar that a text gives, with its marked nonterminals inlined: the
-- outcome of a parse by its tables, the report of its tables or conflicts, or the explanation of
-- its conflicts.
use Rattle.std.specs.Prelude.{◌≡◌, ◌⊎◌, ℕ, ◌≤◌, List, ◌++◌, map, codes, Result, Ok, Err}
use Rattle.std.specs.Fmt.{decimal}
use Rattle.lalrpop_base.specs.Words.{Bits, contents, IsOnNoRightSide, token_text, Outcome, Parsed, Refused, Limit, HasOutcome}
use Rattle.lalrpop_base.specs.Words.{Contents, Tree, beside, no_trees, leaves, nodes, IsParseTree, IsWellFormed, productions, rules_of}
use Rattle.lalrpop_states.specs.declared.lr1_core.state.State.{State}
use Rattle.lalrpop_states.specs.declared.lr1_core.state.TableConstructionError.{TableConstructionError}
use Rattle.lalrpop_grammar.specs.declared.repr.NonterminalString.{NonterminalString}
use Rattle.lalrpop_grammar.specs.declared.repr.Production.{Production}
use Rattle.lalrpop_grammar.specs.declared.repr.TerminalString.{TerminalString}
use Rattle.lalrpop_grammar.specs.declared.repr.TerminalString.TheVariants.{Literal}
use Rattle.lalrpop_grammar.specs.declared.repr.grammar.Grammar.{Grammar}
use Rattle.lalrpop_tables.specs.Words.{AreTablesOf, HasConflictsOf, IsConflictCount}
use Rattle.lalrpop_construction.specs.declared.options.Method.{Method}
use Rattle.lalrpop_lr1.specs.Words.{IsCutOff, IsOutcomeFor, tree_of, tree_text, tables_report, failure_report}
use Rattle.lalrpop_parser.specs.declared.interpret.error.InterpretError.{InterpretError}
use Rattle.lalrpop_parser.specs.declared.interpret.error.InterpretError.TheVariants.{Refused as RefusedBy, Limit as LimitPassed, Memory}
use Rattle.lalrpop_parser.specs.declared.interpret.tree.ParseTree.{ParseTree}
use Rattle.grammar_text.specs.Symbols.{name_of}
use Rattle.program_answers.specs.Outcomes.{SaysOfGrammar}
use Rattle.program_answers.specs.Texts.{line, most_copies}
use Rattle.lrtab_run.specs.Explained.{IsExplanation}
use Rattle.lrtab_run.specs.Words.{Asked, Task, Parse, Report, Explain}

-- ---- a parse
-- the status and the text of an outcome: 0 and a tree, or 1 and a refusal or the limit
abbrev pub IsOutcomeText : Outcome → ℕ → List ℕ → Type 0
IsOutcomeText (Parsed t) status text = (status ≡ 0) × (tree : ParseTree) × (tree_of tree ≡ t) × (text ≡ line (tree_text tree))
IsOutcomeText (Refused n token) status text = (status ≡ 1) × (text ≡ line (codes "refused at " ++ token_text token))
IsOutcomeText Limit status text = (status ≡ 1) × (text ≡ line (codes "limit"))

-- the status and the text of a result of the parser; an allocation failure has no text
abbrev pub IsTextOf : {L : Type 0} → Result ParseTree (InterpretError L) → ℕ → List ℕ → Type 0
IsTextOf (Ok tree) status text = (status ≡ 0) × (text ≡ line (tree_text tree))
IsTextOf (Err (RefusedBy state token)) status text = (status ≡ 1) × (text ≡ line (codes "refused at " ++ token_text token))
IsTextOf (Err LimitPassed) status text = (status ≡ 1) × (text ≡ line (codes "limit"))
IsTextOf (Err Memory) status text = ⊥

-- the status and the text for a number of conflicts
abbrev pub IsCountText : ℕ → ℕ → List ℕ → Type 0
IsCountText count status text = (status ≡ 1) × (text ≡ line (codes "conflicts: " ++ decimal count))

-- what an outcome says of the tokens: the leaves of a tree are the tokens, and its nodes are at
-- most the limit; at the limit, that many steps were made and one more is possible
abbrev pub SaysOfTokens : (ℕ → Contents) → List TerminalString → ℕ → Outcome → Type 0
SaysOfTokens states tokens limit (Parsed t) = (leaves (beside t no_trees) ≡ tokens) × (nodes (beside t no_trees) ≤ limit)
SaysOfTokens states tokens limit (Refused n token) = Unit {0}
SaysOfTokens states tokens limit Limit = IsCutOff states tokens limit

-- the text has the outcome of a run by states; if the start symbol is on no right side, the outcome
-- also says something of the grammar, and each parse tree of the tokens has that outcome
pub record IsRunShown (g : List Production) (start : NonterminalString) (states : ℕ → Contents) (tokens : List TerminalString) (limit status : ℕ) (text : List ℕ) : Type 0 where
  pub outcome : Outcome
  pub run : HasOutcome states tokens limit outcome
  pub shown : IsOutcomeText outcome status text
  pub of_tokens : SaysOfTokens states tokens limit outcome
  pub of_grammar : IsOnNoRightSide g start → SaysOfGrammar g start tokens outcome
  pub of_trees : IsOnNoRightSide g start → (t : Tree) → IsParseTree g start tokens t → IsOutcomeFor t limit outcome

-- the text has the outcome of a run by the tables that the method makes for a grammar and a start
-- symbol
pub record IsParseShown (method : Method) (max_copies : ℕ) (g : Grammar) (start : NonterminalString) (tokens : List TerminalString) (limit status : ℕ) (text : List ℕ) : Type 0 where
  pub states : List (State Bits)
  pub tables : AreTablesOf ⊥ method max_copies g start states
  pub run : IsRunShown (productions g) start (contents g.terminals states) tokens limit status text

-- or, if there are no tables, the text has the number of the canonical conflicts
pub record IsCountShown (g : Grammar) (start : NonterminalString) (status : ℕ) (text : List ℕ) : Type 0 where
  pub count : ℕ
  pub counted : IsConflictCount g start count
  pub shown : IsCountText count status text

-- ---- a report
-- the text is the report of the tables, with status 0
pub record IsTablesShown (method : Method) (max_copies : ℕ) (g : Grammar) (start : NonterminalString) (status : ℕ) (text : List ℕ) : Type 0 where
  pub states : List (State Bits)
  pub tables : AreTablesOf ⊥ method max_copies g start states
  pub ended : status ≡ 0
  pub shown : text ≡ tables_report (λ (set : Bits). set) g.terminals states

-- or, if there are no tables, the text is the report of the canonical states and conflicts, with
-- status 1
pub record AreConflictsShown (g : Grammar) (start : NonterminalString) (status : ℕ) (text : List ℕ) : Type 0 where
  pub error : TableConstructionError Bits
  pub no_tables : HasConflictsOf ⊥ 0 g start error
  pub ended : status ≡ 1
  pub shown : text ≡ failure_report (λ (set : Bits). set) g.terminals error.states.items error.conflicts.items

-- ---- an explanation
-- there are tables, so the text says that there are no conflicts, with status 0
pub record IsFreeShown (method : Method) (max_copies : ℕ) (g : Grammar) (start : NonterminalString) (status : ℕ) (text : List ℕ) : Type 0 where
  pub states : List (State Bits)
  pub tables : AreTablesOf ⊥ method max_copies g start states
  pub ended : status ≡ 0
  pub shown : text ≡ line (codes "no conflicts")

-- or, if there are no tables, the text is the explanation of the canonical conflicts, with status 1
pub record IsExplanationShown (g : Grammar) (start : NonterminalString) (status : ℕ) (text : List ℕ) : Type 0 where
  pub error : TableConstructionError Bits
  pub no_tables : HasConflictsOf ⊥ 0 g start error
  pub ended : status ≡ 1
  pub shown : IsExplanation (rules_of g) error.states.items error.conflicts.items text

-- ---- what is asked
-- the status and the text that a task shows of a grammar and a start symbol, by the method and with
-- a limit on copies of states; the tokens are literals
abbrev pub IsTaskShown : Method → ℕ → Grammar → NonterminalString → Task → ℕ → List ℕ → Type 0
IsTaskShown method max_copies g start (Parse limit tokens) status text = IsParseShown method max_copies g start (map Literal tokens) limit status text ⊎ IsCountShown g start status text
IsTaskShown method max_copies g start Report status text = IsTablesShown method max_copies g start status text ⊎ AreConflictsShown g start status text
IsTaskShown method max_copies g start Explain status text = IsFreeShown method max_copies g start status text ⊎ IsExplanationShown g start status text

-- the status and the text that a request shows of a grammar
abbrev pub IsShown : Method → Grammar → Asked → ℕ → List ℕ → Type 0
IsShown method g request = IsTaskShown method most_copies g (name_of request.start) request.task
