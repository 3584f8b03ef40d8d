-- The arguments that the words of a call stand for, and the result of a call. Words and a grammar
-- text are lists of bytes.
use Rattle.std.specs.Prelude.{◌≡◌, ◌==◌, ◌⊎◌, ℕ, Bool, true, false, List, [], ◌∷◌, Some, is_some, codes, if◌then◌else◌}
use Rattle.std.specs.List.{slice_split}
use Rattle.std.specs.Str.{IsUtf8}
use Rattle.lalrpop_construction.specs.declared.options.Method.{Method}
use Rattle.lalrpop_construction.specs.declared.options.Method.TheVariants.{Lane, Canonical}
use Rattle.program_answers.specs.declared.answer.Answer.{Answer}
use Rattle.program_answers.specs.declared.answer.Answer.TheVariants.{Memory}
use Rattle.program_answers.specs.Answers.{file_name}
use Rattle.lrtab_run.specs.Answers.{IsAnswer}
use Rattle.lrtab_run.specs.Words.{request_of}
use Rattle.lrshow_run.specs.Answers.{IsShowAnswer}
use Rattle.lr1_calls.specs.Copied.{IsGiven}

-- the arguments of a command line: `grammar` in the place of the name of a file, and the words, which
-- are between bytes 0
abbrev pub arguments : List ℕ → List (List ℕ)
arguments words = codes "grammar" ∷ slice_split (λ b. b == 0) words

-- arguments stand for the words of a call; there are none if the words are not UTF-8
pub record AreArguments (words : List ℕ) (all : List (List ℕ)) : Type 0 where
  pub text : IsUtf8 words → all ≡ arguments words
  pub no_text : (IsUtf8 words → ⊥) → all ≡ []

-- the method that a flag asks for
abbrev pub method_for : Bool → Method
method_for canonical = if canonical then Canonical else Lane

-- a result is that of `lrtab`, as a test says, or that of `lrshow`, for arguments and a grammar text
abbrev pub IsAnswerIf : Bool → Method → List (List ℕ) → List ℕ → Answer → Type 0
IsAnswerIf true method all text answer = IsAnswer method (request_of all) (file_name all) (Some (Some text)) answer
IsAnswerIf false method all text answer = IsShowAnswer method all (Some (Some text)) answer

-- a result is that of `lrtab` if the arguments are a request of `lrtab`, and else that of `lrshow`
abbrev pub IsAnswerOf : Method → List (List ℕ) → List ℕ → Answer → Type 0
IsAnswerOf method all text answer = IsAnswerIf (is_some (request_of all)) method all text answer

-- a result is that of a program for the words of a call and a grammar text
pub record IsProgramAnswer (method : Method) (words text : List ℕ) (answer : Answer) : Type 0 where
  pub all : List (List ℕ)
  pub stand : AreArguments words all
  pub right : IsAnswerOf method all text answer

-- a result is that of a program, or an allocation failed
abbrev pub IsAnswerToCall : Method → (words text : List ℕ) → Answer → Type 0
IsAnswerToCall method words text answer = (answer ≡ Memory) ⊎ IsProgramAnswer method words text answer

-- a call has a status, and it copied the text of a right result to a room
pub record IsAnswered (canonical : Bool) (words text : List ℕ) (status : ℕ) (old new : List ℕ) (count : ℕ) : Type 0 where
  pub answer : Answer
  pub right : IsAnswerToCall (method_for canonical) words text answer
  pub given : IsGiven answer status old new count
