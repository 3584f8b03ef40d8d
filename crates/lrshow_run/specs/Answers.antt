-- The result of the program, and how it relates to its arguments and the file.
use Rattle.std.specs.Prelude.{◌≡◌, ℕ, List, [], Option, None, Some}
use Rattle.lalrpop_construction.specs.declared.options.Method.{Method}
use Rattle.grammar_text.specs.Symbols.{name_of}
use Rattle.program_answers.specs.Answers.{IsAnswerTo, file_name}
use Rattle.program_answers.specs.declared.answer.Answer.{Answer}
use Rattle.program_answers.specs.declared.answer.Answer.TheVariants.{Output, Fault, Usage, TooManyActions, Memory}
use Rattle.lrshow_arguments.specs.Words.{Asked, AskedCheck, Text, check_of, request_of, text_for}
use Rattle.lrshow_run.specs.Shown.{IsAskedShown}
use Rattle.lrshow_check.specs.Check.{IsCheckAnswer}
use Rattle.lrshow_arguments.specs.Help.{IsText}
use Rattle.lrshow_check.specs.Output.{IsOutput}

-- a result is a text that is asked for, with status 0
abbrev pub IsTextAnswer : Text → Answer → Type 0
IsTextAnswer asked (Output s) = (text : List ℕ) × IsText asked text × IsOutput 0 text [] s
IsTextAnswer asked (Fault words) = ⊥
IsTextAnswer asked Usage = ⊥
IsTextAnswer asked TooManyActions = ⊥
IsTextAnswer asked Memory = Unit {0}

-- a result is the text that is asked for, if there is one, and else another result
abbrev pub IsTextAnswerOr : Type 0 → Option Text → Answer → Type 0
IsTextAnswerOr IsOther None answer = IsOther
IsTextAnswerOr IsOther (Some asked) answer = IsTextAnswer asked answer

-- a result is that of a request: `Usage` if there is none, and else a result for it and the file
abbrev pub IsRequestAnswer : Method → Option Asked → List ℕ → Option (Option (List ℕ)) → Answer → Type 0
IsRequestAnswer method None name file answer = answer ≡ Usage
IsRequestAnswer method (Some request) name file answer = IsAnswerTo (λ g. IsAskedShown method g (name_of request.start) request.form) name file answer

-- a result is that of a check, if one is asked for, and else that of a request
abbrev pub IsAnswerOf : Method → Option AskedCheck → Option Asked → List ℕ → Option (Option (List ℕ)) → Answer → Type 0
IsAnswerOf method None request name file answer = IsRequestAnswer method request name file answer
IsAnswerOf method (Some check) request name file answer = IsCheckAnswer method check name file answer

-- a result is that of `lrshow` for its arguments: a text that needs no file, the result of a check,
-- that of another request, or `Usage`
abbrev pub IsShowAnswer : Method → List (List ℕ) → Option (Option (List ℕ)) → Answer → Type 0
IsShowAnswer method words file answer = IsTextAnswerOr (IsAnswerOf method (check_of words) (request_of words) (file_name words) file answer) (text_for words) answer
