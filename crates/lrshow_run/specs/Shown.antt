-- What the program shows of a grammar that a text gives, with its marked nonterminals inlined.
use Rattle.std.specs.Prelude.{◌≡◌, ◌==◌, ◌<◌, ◌≤◌, nat_lt, ℕ, Bool, true, false, ◌&&◌, List, [], ◌++◌, length, Option, None, Some, codes, if◌then◌else◌}
use Rattle.std.specs.Fmt.{decimal}
use Rattle.lalrpop_base.specs.Words.{Bits, nonterminal_text, productions_of}
use Rattle.lalrpop_states.specs.declared.lr1_core.state.Conflict.{Conflict}
use Rattle.lalrpop_states.specs.declared.lr1_core.state.State.{State}
use Rattle.lalrpop_grammar.specs.declared.repr.NonterminalString.{NonterminalString}
use Rattle.lalrpop_grammar.specs.declared.repr.grammar.Grammar.{Grammar}
use Rattle.lalrpop_construction.specs.declared.options.Method.{Method}
use Rattle.grammar_text.specs.Lines.{is_empty}
use Rattle.grammar_diagnostics.specs.Nearest.{nearest_name}
use Rattle.program_answers.specs.Texts.{line}
use Rattle.program_answers.specs.declared.answer.Shown.{Shown}
use Rattle.table_data.specs.Whole.{IsData}
use Rattle.table_pictures.specs.ConflictStates.{is_conflict_state}
use Rattle.table_pictures.specs.Escape.{pictured_lines}
use Rattle.table_pictures.specs.EdgePairs.{edge_pairs}
use Rattle.table_pictures.specs.declared.edges.ShownStates.{ShownStates}
use Rattle.table_pictures.specs.declared.edges.ShownStates.TheVariants.{All as AllStates, Around, Only}
use Rattle.table_pictures.specs.Graphs.{edge_count, graph, most_edges}
use Rattle.table_pictures.specs.Page.{page}
use Rattle.table_pictures.specs.Paths.{AreNear, AreOnShortest}
use Rattle.conflict_causes.specs.CauseTexts.{IsConflictsText}
use Rattle.lrshow_check.specs.Built.{AreBuilt}
use Rattle.lrshow_check.specs.Output.{IsOutput}
use Rattle.lrshow_parser.specs.Parsers.{IsParserShown}
use Rattle.lrshow_run.specs.Trees.{IsParseDrawn}
use Rattle.lrshow_arguments.specs.Words.{Choice, All, Near, ToConflicts, Form, TablesIn, TreeOf, ParserBy, TableForm, Json, Graph, Page, Causes}

-- ---- the graph
-- the message if there is no state with the number
abbrev pub no_state : ℕ → List ℕ
no_state number = line (codes "no state " ++ decimal number)

-- the remark on how to cut a graph of many edges
abbrev pub how_to_cut : ℕ → List ℕ
how_to_cut count = if nat_lt most_edges count then decimal count ++ line (codes " edges: --around STATE shows one state and its neighbours, --conflicts the paths to conflicts") else []

-- what a graph shows of the states near one: at depth 1 the state and its neighbours, and else
-- exactly the states near it
abbrev pub IsNearChoice : List (State Bits) → ℕ → ℕ → ShownStates → Type 0
IsNearChoice states number depth AllStates = ⊥
IsNearChoice states number depth (Around n) = (depth ≡ 1) × (n ≡ number)
IsNearChoice states number depth (Only flags) = (depth ≡ 1 → ⊥) × AreNear (edge_pairs states) number depth flags.items

-- what a graph shows of the states on shortest paths to conflicts: exactly these
abbrev pub IsConflictChoice : List (State Bits) → List (Conflict Bits) → ShownStates → Type 0
IsConflictChoice states conflicts AllStates = ⊥
IsConflictChoice states conflicts (Around n) = ⊥
IsConflictChoice states conflicts (Only flags) = AreOnShortest (edge_pairs states) 0 (is_conflict_state (length states) conflicts) flags.items

-- what a graph shows of states: all; those near one; or those on shortest paths to conflicts
abbrev pub IsChoiceShown : List (State Bits) → List (Conflict Bits) → Choice → ShownStates → Type 0
IsChoiceShown states conflicts All shown = shown ≡ AllStates
IsChoiceShown states conflicts (Near number depth) shown = IsNearChoice states number depth shown
IsChoiceShown states conflicts ToConflicts shown = IsConflictChoice states conflicts shown

-- the remark on so many conflicts, if there are none
abbrev pub no_conflicts : ℕ → List ℕ
no_conflicts count = if count == 0 then line (codes "no conflicts") else []

-- the remark beside a graph: on how to cut one of all states, if it has many edges, and on one of the
-- paths to conflicts, if there are no conflicts
abbrev pub graph_remark : List (State Bits) → List (Conflict Bits) → Choice → List ℕ
graph_remark states conflicts All = how_to_cut (edge_count states)
graph_remark states conflicts (Near number depth) = []
graph_remark states conflicts ToConflicts = no_conflicts (length conflicts)

-- a graph is shown of the states that are asked for
pub record IsChosenGraph (g : Grammar) (start : NonterminalString) (status : ℕ) (states : List (State Bits)) (conflicts : List (Conflict Bits)) (choice : Choice) (s : Shown) : Type 0 where
  pub chosen : ShownStates
  pub right : IsChoiceShown states conflicts choice chosen
  pub shown : IsOutput status (graph start g.terminals states conflicts chosen) (graph_remark states conflicts choice) s

-- what is shown for a graph: that of the states that are asked for, or that there is no state with
-- the number
abbrev pub IsGraphShown : Grammar → NonterminalString → ℕ → List (State Bits) → List (Conflict Bits) → Choice → Shown → Type 0
IsGraphShown g start status states conflicts All s = IsChosenGraph g start status states conflicts All s
IsGraphShown g start status states conflicts (Near number depth) s =
    (number < length states → IsChosenGraph g start status states conflicts (Near number depth) s)
    × (length states ≤ number → IsOutput 2 [] (no_state number) s)
IsGraphShown g start status states conflicts ToConflicts s = IsChosenGraph g start status states conflicts ToConflicts s

-- ---- what is asked
-- the steps of a search for a witness of one cause
abbrev pub search_steps : ℕ
search_steps = 10000

-- what is shown in a form of states and conflicts that were built: their data, their graph, the page
-- of their data, or the causes of the conflicts
abbrev pub IsFormShown : Grammar → NonterminalString → ℕ → List (State Bits) → List (Conflict Bits) → TableForm → Shown → Type 0
IsFormShown g start status states conflicts Json s = (json : List ℕ) × IsData g start states conflicts json × IsOutput status json [] s
IsFormShown g start status states conflicts (Graph choice) s = IsGraphShown g start status states conflicts choice s
IsFormShown g start status states conflicts Page s = (json : List ℕ) × IsData g start states conflicts json × IsOutput status (page json) [] s
IsFormShown g start status states conflicts Causes s = (text : List ℕ) × IsConflictsText g states conflicts search_steps text × IsOutput status (pictured_lines text) [] s

-- the tables that the method makes or, if there are no tables, the canonical states and their
-- conflicts are shown in a form
pub record AreTablesShown (method : Method) (g : Grammar) (start : NonterminalString) (form : TableForm) (s : Shown) : Type 0 where
  pub status : ℕ
  pub states : List (State Bits)
  pub conflicts : List (Conflict Bits)
  pub built : AreBuilt method g start status states conflicts
  pub shown : IsFormShown g start status states conflicts form s

-- what is shown of the tables of a grammar, of a parse by them, or of a parser
abbrev pub IsMadeShown : Method → Grammar → NonterminalString → Form → Shown → Type 0
IsMadeShown method g start (TablesIn form) s = AreTablesShown method g start form s
IsMadeShown method g start (TreeOf words is_graph) s = IsParseDrawn method g start words is_graph s
IsMadeShown method g start (ParserBy parser) s = IsParserShown parser method g start s

-- whether a form has nothing to show without a production of the start symbol
abbrev pub needs_start : Form → Bool
needs_start (TablesIn Json) = false
needs_start (TablesIn (Graph choice)) = false
needs_start (TablesIn Page) = false
needs_start (TablesIn Causes) = true
needs_start (TreeOf words is_graph) = true
needs_start (ParserBy parser) = true

-- whether a form needs a production of the start symbol, and there is none
abbrev pub is_missing : Grammar → NonterminalString → Form → Bool
is_missing g start form = needs_start form && is_empty (productions_of g start)

-- the message that a start symbol has no production, with a name that may be meant
abbrev pub no_start_text : NonterminalString → Option NonterminalString → List ℕ
no_start_text start None = codes "`" ++ (nonterminal_text start ++ codes "` has no production\n")
no_start_text start (Some other) = codes "`" ++ (nonterminal_text start ++ (codes "` has no production; perhaps `" ++ (nonterminal_text other ++ codes "` is meant\n")))

-- the message if the start symbol has no production: it names the nearest name that has one
abbrev pub no_start : Grammar → NonterminalString → List ℕ
no_start g start = no_start_text start (nearest_name g start)

-- what is shown is that the start symbol has no production, as a test says, or what the grammar makes
abbrev pub IsShownIf : Bool → Method → Grammar → NonterminalString → Form → Shown → Type 0
IsShownIf true method g start form s = IsOutput 2 [] (no_start g start) s
IsShownIf false method g start form s = IsMadeShown method g start form s

-- what is shown of a grammar for a form and a start symbol
abbrev pub IsAskedShown : Method → Grammar → NonterminalString → Form → Shown → Type 0
IsAskedShown method g start form s = IsShownIf (is_missing g start form) method g start form s
