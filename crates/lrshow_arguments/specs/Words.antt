-- What the arguments of the command line ask for. An argument is a list of bytes.
use Rattle.std.specs.Prelude.{ℕ, ◌&&◌, ◌||◌, Bool, true, false, List, [], ◌∷◌, map, Option, None, Some, option_map, codes, string_bytes, if◌then◌else◌}
use Rattle.std.specs.Str.{bytes_eq}
use Rattle.grammar_text.specs.Lines.{is_empty}
use Rattle.grammar_text.specs.Symbols.{is_name}
use Rattle.program_answers.specs.Words.{limit_of}
use Rattle.lrshow_arguments.specs.declared.words.Check.{Check}
use Rattle.lrshow_arguments.specs.declared.words.Request.{Request}
use Rattle.lrshow_arguments.specs.declared.words.Choice.{Choice as ChoiceWords}
use Rattle.lrshow_arguments.specs.declared.words.Choice.TheVariants.{All as AllWord, Near as NearWords, Conflicts as ConflictsWord}
use Rattle.lrshow_arguments.specs.declared.words.Form.{Form as FormWords}
use Rattle.lrshow_arguments.specs.declared.words.Form.TheVariants.{Tables as TablesWords, Tree as TreeWords, Parser as ParserIn}
use Rattle.lrshow_arguments.specs.declared.words.Language.{Language as LanguageWord}
use Rattle.lrshow_arguments.specs.declared.words.Language.TheVariants.{C as CWord, Rust as RustWord, Python as PythonWord}
use Rattle.lrshow_arguments.specs.declared.words.Parser.{Parser as ParserWords}
use Rattle.lrshow_arguments.specs.declared.words.TableForm.{TableForm as TableFormWords}
use Rattle.lrshow_arguments.specs.declared.words.TableForm.TheVariants.{Json as JsonWord, Graph as GraphWords, Page as PageWord, Causes as CausesWord}
use Rattle.lrshow_arguments.specs.declared.words.Text.{Text as TextWords}
use Rattle.lrshow_arguments.specs.declared.words.Text.TheVariants.{Help as HelpWord, Version as VersionWord}

-- which states a graph shows: all; those at most so many edges from the state with a number, or
-- before it; or those on shortest paths to conflicts
pub data Choice : Type 0 where
  All : Choice
  Near : (state depth : ℕ) → Choice
  ToConflicts : Choice

-- the form in which tables are shown: as JSON, as a graph of states, as a page, or as the causes of
-- their conflicts
pub data TableForm : Type 0 where
  Json : TableForm
  Graph : Choice → TableForm
  Page : TableForm
  Causes : TableForm

-- the language in which a parser is written
pub data Language : Type 0 where
  C : Language
  Rust : Language
  Python : Language

-- a parser that is asked for: its language, whether the grammar gets a new start symbol, and what the
-- names in a parser for C begin with
pub record AskedParser : Type 0 where
  pub language : Language
  pub is_augmented : Bool
  pub prefix : List ℕ

-- what is shown of a grammar: its tables in a form; the parse of tokens and whether it is drawn as a
-- graph; or a parser
pub data Form : Type 0 where
  TablesIn : TableForm → Form
  TreeOf : List (List ℕ) → Bool → Form
  ParserBy : AskedParser → Form

-- a start symbol, and what is shown of the grammar
pub record Asked : Type 0 where
  pub start : List ℕ
  pub form : Form

-- a start symbol, and whether the check is written as JSON
pub record AskedCheck : Type 0 where
  pub start : List ℕ
  pub is_json : Bool

-- what arguments ask for without a file: the help, the version, or neither
pub data Text : Type 0 where
  Help : Text
  Version : Text

-- ---- the graph
-- --conflicts asks for the states on paths to conflicts
abbrev pub conflict_choice : List ℕ → Option Choice
conflict_choice option = if bytes_eq option (codes "--conflicts") then Some ToConflicts else None

-- --around STATE --depth N asks for states near one
abbrev pub near : (option state other depth : List ℕ) → Option Choice
near option state other depth = if bytes_eq option (codes "--around") && bytes_eq other (codes "--depth") then near_numbers (limit_of state) (limit_of depth) else None
  where
    near_numbers : Option ℕ → Option ℕ → Option Choice
    near_numbers None d = None
    near_numbers (Some n) None = None
    near_numbers (Some n) (Some d) = Some (Near n d)

-- the states that the arguments after `dot` ask for; without --depth the depth is 1
abbrev pub choice_of : List (List ℕ) → Option Choice
choice_of [] = Some All
choice_of (option ∷ []) = conflict_choice option
choice_of (option ∷ state ∷ []) = near option state (codes "--depth") (codes "1")
choice_of (option ∷ state ∷ other ∷ []) = None
choice_of (option ∷ state ∷ other ∷ depth ∷ []) = near option state other depth
choice_of (option ∷ state ∷ other ∷ depth ∷ word ∷ words) = None

-- ---- the other forms
-- the form that a verb without arguments after it asks for
abbrev pub lone_form : List ℕ → Option TableForm
lone_form verb = if bytes_eq verb (codes "json") then Some Json else (if bytes_eq verb (codes "html") then Some Page else (if bytes_eq verb (codes "conflicts") then Some Causes else None))

-- the form of tables that the arguments after the start symbol ask for
abbrev pub table_form_of : List ℕ → List (List ℕ) → Option TableForm
table_form_of verb words = if bytes_eq verb (codes "dot") then option_map Graph (choice_of words) else (if is_empty words then lone_form verb else None)

-- the parse that the arguments after `tree` ask for
abbrev pub tree_of : List (List ℕ) → Form
tree_of [] = TreeOf [] false
tree_of (option ∷ tokens) = if bytes_eq option (codes "--dot") then TreeOf tokens true else TreeOf (option ∷ tokens) false

-- the language that a verb names
abbrev pub language_of : List ℕ → Option Language
language_of verb = if bytes_eq verb (codes "c") then Some C else (if bytes_eq verb (codes "rust") then Some Rust else (if bytes_eq verb (codes "python") then Some Python else None))

-- --prefix NAME is an option of a parser in C
abbrev pub is_prefix : Language → (option prefix : List ℕ) → Bool
is_prefix C option prefix = bytes_eq option (codes "--prefix") && is_name prefix
is_prefix Rust option prefix = false
is_prefix Python option prefix = false

-- a parser with a new start symbol, and with a prefix for its names
abbrev pub augmented : AskedParser → AskedParser
augmented p = record { language = p.language; is_augmented = true; prefix = p.prefix }

abbrev pub prefixed : AskedParser → List ℕ → AskedParser
prefixed p prefix = record { language = p.language; is_augmented = p.is_augmented; prefix = prefix }

-- a parser with the options that arguments are, in any order: --augment asks for a new start symbol,
-- and --prefix NAME for names that begin with NAME
abbrev pub parser_with : AskedParser → List (List ℕ) → Option AskedParser
parser_with p [] = Some p
parser_with p (option ∷ []) = if bytes_eq option (codes "--augment") then Some (augmented p) else None
parser_with p (option ∷ word ∷ words) = if bytes_eq option (codes "--augment") then parser_with (augmented p) (word ∷ words) else (if is_prefix p.language option word then parser_with (prefixed p word) words else None)

-- the parser that the arguments after a language ask for; without options its names begin with `lr`
abbrev pub parser_of : Language → List (List ℕ) → Option AskedParser
parser_of language words = parser_with (record { language = language; is_augmented = false; prefix = codes "lr" }) words

-- the parser in a language that the arguments ask for, if there is one, and else the tables
abbrev pub parser_or_tables : Option Language → List ℕ → List (List ℕ) → Option Form
parser_or_tables None verb words = option_map TablesIn (table_form_of verb words)
parser_or_tables (Some language) verb words = option_map ParserBy (parser_of language words)

-- what the arguments after the start symbol ask for
abbrev pub form_of : List ℕ → List (List ℕ) → Option Form
form_of verb words = if bytes_eq verb (codes "tree") then Some (tree_of words) else parser_or_tables (language_of verb) verb words

-- what arguments ask for that have the form FILE START and a form
abbrev pub request_of : List (List ℕ) → Option Asked
request_of [] = None
request_of (file ∷ []) = None
request_of (file ∷ start ∷ []) = None
request_of (file ∷ start ∷ verb ∷ words) = if is_name start then option_map (λ form. record { start = start; form = form }) (form_of verb words) else None

-- the check that a start symbol and a verb ask for
abbrev pub check_by : List ℕ → List ℕ → Bool → Option AskedCheck
check_by start verb is_json = if is_name start && bytes_eq verb (codes "check") then Some (record { start = start; is_json = is_json }) else None

-- the check that arguments of the form FILE START check [--json] ask for
abbrev pub check_of : List (List ℕ) → Option AskedCheck
check_of [] = None
check_of (file ∷ []) = None
check_of (file ∷ start ∷ []) = None
check_of (file ∷ start ∷ verb ∷ []) = check_by start verb false
check_of (file ∷ start ∷ verb ∷ option ∷ []) = if bytes_eq option (codes "--json") then check_by start verb true else None
check_of (file ∷ start ∷ verb ∷ option ∷ other ∷ words) = None

-- the text that arguments ask for: the first one is --help, -h or --version
abbrev pub text_for : List (List ℕ) → Option Text
text_for [] = None
text_for (word ∷ words) = if bytes_eq word (codes "--help") || bytes_eq word (codes "-h") then Some Help else (if bytes_eq word (codes "--version") then Some Version else None)

-- ---- the types of the code
-- a text, from the type of the code
abbrev pub text_view : TextWords → Text
text_view HelpWord = Help
text_view VersionWord = Version

-- a choice of states, from the type of the code
abbrev pub choice_view : ChoiceWords → Choice
choice_view AllWord = All
choice_view (NearWords n d) = Near n d
choice_view ConflictsWord = ToConflicts

-- a form of tables, from the type of the code
abbrev pub table_form_view : TableFormWords → TableForm
table_form_view JsonWord = Json
table_form_view (GraphWords choice) = Graph (choice_view choice)
table_form_view PageWord = Page
table_form_view CausesWord = Causes

-- a language, from the type of the code
abbrev pub language_view : LanguageWord → Language
language_view CWord = C
language_view RustWord = Rust
language_view PythonWord = Python

-- a parser, from the type of the code
abbrev pub parser_view : ParserWords → AskedParser
parser_view p = record { language = language_view p.language; is_augmented = p.is_augmented; prefix = p.prefix.now }

-- a form, from the type of the code
abbrev pub form_view : FormWords → Form
form_view (TablesWords form) = TablesIn (table_form_view form)
form_view (TreeWords tokens is_graph) = TreeOf (map string_bytes tokens.now) is_graph
form_view (ParserIn parser) = ParserBy (parser_view parser)

-- a request, from the type of the code
abbrev pub request_view : Request → Asked
request_view r = record { start = r.start.now; form = form_view r.form }

-- a check, from the type of the code
abbrev pub check_view : Check → AskedCheck
check_view c = record { start = c.start.now; is_json = c.is_json }
