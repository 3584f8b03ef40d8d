-- What the program shows of a parse of tokens by the tables of a grammar.
use Rattle.std.specs.Prelude.{◌⊎◌, ℕ, Bool, List, [], ◌++◌, map, take, codes, if◌then◌else◌}
use Rattle.std.specs.Fmt.{decimal}
use Rattle.lalrpop_base.specs.Words.{Bits, Contents, contents, IsOnNoRightSide, Outcome, Parsed, Refused, Limit, HasOutcome, Tree, beside, no_trees, productions}
use Rattle.lalrpop_states.specs.declared.lr1_core.state.State.{State}
use Rattle.lalrpop_grammar.specs.declared.repr.NonterminalString.{NonterminalString}
use Rattle.lalrpop_grammar.specs.declared.repr.TerminalString.{TerminalString}
use Rattle.lalrpop_grammar.specs.declared.repr.TerminalString.TheVariants.{Literal}
use Rattle.lalrpop_grammar.specs.declared.repr.grammar.Grammar.{Grammar}
use Rattle.lalrpop_tables.specs.Words.{AreTablesOf, IsConflictCount}
use Rattle.lalrpop_construction.specs.declared.options.Method.{Method}
use Rattle.parse_pictures.specs.declared.expected.Expected.{Expected}
use Rattle.parse_pictures.specs.NextTokens.{AreNext, IsEnding, IsShiftedCount}
use Rattle.parse_pictures.specs.RefusalTexts.{refusal_words}
use Rattle.parse_pictures.specs.TreeGraphs.{tree_statements}
use Rattle.parse_pictures.specs.TreeLines.{tree_lines}
use Rattle.table_pictures.specs.Escape.{pictured_lines, pictured_text}
use Rattle.program_answers.specs.declared.answer.Shown.{Shown}
use Rattle.program_answers.specs.Outcomes.{SaysOfGrammar}
use Rattle.program_answers.specs.Texts.{line, most_copies}
use Rattle.lrshow_check.specs.Output.{IsOutput}

-- the limit of a parse that is drawn
abbrev pub most_steps : ℕ
most_steps = 1000000

-- a tree as a graph, or as lines with control characters shown by their pictures
abbrev pub drawing : Bool → Tree → List ℕ
drawing is_graph t = if is_graph then tree_statements t else pictured_lines (tree_lines 0 (beside t no_trees))

-- what is shown of a refusal: the place of the first token that is not shifted, and what is expected
-- there
pub record IsRefusalShown (terminals : List TerminalString) (states : ℕ → Contents) (tokens : List TerminalString) (s : Shown) : Type 0 where
  pub count : ℕ
  pub counted : IsShiftedCount states most_steps tokens count
  pub expected : Expected
  pub next : AreNext states most_steps (take count tokens) terminals expected.terminals.items
  pub ending : IsEnding states most_steps (take count tokens) expected.end
  pub shown : IsOutput 1 [] (line (pictured_text (refusal_words tokens count expected))) s

-- what is shown of an outcome: the drawing of a tree, the place of a refusal, or the limit
abbrev pub IsOutcomeDrawn : List TerminalString → (ℕ → Contents) → List TerminalString → Bool → Outcome → Shown → Type 0
IsOutcomeDrawn terminals states tokens is_graph (Parsed t) s = IsOutput 0 (drawing is_graph t) [] s
IsOutcomeDrawn terminals states tokens is_graph (Refused n token) s = IsRefusalShown terminals states tokens s
IsOutcomeDrawn terminals states tokens is_graph Limit s = IsOutput 1 [] (codes "no tree within " ++ (decimal most_steps ++ codes " steps\n")) s

-- the outcome of the run of the tokens is shown. If the start symbol is on no right side, a tree is a
-- parse tree, and a refusal names the first wrong token
pub record IsRunDrawn (g : Grammar) (start : NonterminalString) (states : ℕ → Contents) (tokens : List TerminalString) (is_graph : Bool) (s : Shown) : Type 0 where
  pub outcome : Outcome
  pub run : HasOutcome states tokens most_steps outcome
  pub shown : IsOutcomeDrawn g.terminals states tokens is_graph outcome s
  pub of_grammar : IsOnNoRightSide (productions g) start → SaysOfGrammar (productions g) start tokens outcome

-- the parse by the tables that the method makes is shown
pub record IsParseByTables (method : Method) (g : Grammar) (start : NonterminalString) (tokens : List TerminalString) (is_graph : Bool) (s : Shown) : Type 0 where
  pub states : List (State Bits)
  pub tables : AreTablesOf ⊥ method most_copies g start states
  pub run : IsRunDrawn g start (contents g.terminals states) tokens is_graph s

-- or, if there are no tables, the number of the canonical conflicts
pub record IsCountRemarked (g : Grammar) (start : NonterminalString) (s : Shown) : Type 0 where
  pub count : ℕ
  pub counted : IsConflictCount g start count
  pub shown : IsOutput 1 [] (line (codes "conflicts: " ++ decimal count)) s

-- what is shown of a parse of tokens, which are literals
abbrev pub IsParseDrawn : Method → Grammar → NonterminalString → List (List ℕ) → Bool → Shown → Type 0
IsParseDrawn method g start words is_graph s = IsParseByTables method g start (map Literal words) is_graph s ⊎ IsCountRemarked g start s
