-- What the arguments of the command line ask for. An argument is a list of bytes.
use Rattle.std.specs.Prelude.{ℕ, List, [], ◌∷◌, map, Option, None, Some, option_map, codes, if◌then◌else◌, string_bytes}
use Rattle.std.specs.Str.{bytes_eq}
use Rattle.program_answers.specs.Words.{limit_of}
use Rattle.lrtab_run.specs.declared.words.Request.{Request}
use Rattle.lrtab_run.specs.declared.words.Task.{Task as TaskWords}
use Rattle.lrtab_run.specs.declared.words.Task.TheVariants.{Parse as ParseWords, Report as ReportWords, Explain as ExplainWords}
use Rattle.grammar_text.specs.Symbols.{is_name}

-- what is asked of the tables: a parse of tokens with a limit of steps, the report, or the
-- explanation of conflicts
pub data Task : Type 0 where
  Parse : ℕ → List (List ℕ) → Task
  Report : Task
  Explain : Task

-- a start symbol, and what is asked of its tables
pub record Asked : Type 0 where
  pub start : List ℕ
  pub task : Task

-- what a verb without arguments after it asks for
abbrev pub lone_task : List ℕ → Option Task
lone_task verb = if bytes_eq verb (codes "report") then Some Report else (if bytes_eq verb (codes "explain") then Some Explain else None)

-- what the arguments after the start symbol ask for: parse LIMIT TOKEN.., report or explain
abbrev pub task_of : List ℕ → List (List ℕ) → Option Task
task_of verb [] = lone_task verb
task_of verb (limit ∷ tokens) = if bytes_eq verb (codes "parse") then option_map (λ n. Parse n tokens) (limit_of limit) else None

-- what arguments ask for that have the form FILE START and a task
abbrev pub request_of : List (List ℕ) → Option Asked
request_of [] = None
request_of (file ∷ []) = None
request_of (file ∷ start ∷ []) = None
request_of (file ∷ start ∷ verb ∷ words) = if is_name start then option_map (λ task. record { start = start; task = task }) (task_of verb words) else None

-- a task, with lists in the place of slices
abbrev pub task_view : TaskWords → Task
task_view (ParseWords limit tokens) = Parse limit (map string_bytes tokens.now)
task_view ReportWords = Report
task_view ExplainWords = Explain

-- a request, with lists in the place of slices
abbrev pub request_view : Request → Asked
request_view r = record { start = r.start.now; task = task_view r.task }
