-- The result of `lrtab`, and how it relates to its arguments and the file.
use Rattle.std.specs.Prelude.{◌≡◌, ℕ, List, [], Option, None, Some, codes, string_bytes}
use Rattle.lalrpop_construction.specs.declared.options.Method.{Method}
use Rattle.lalrpop_grammar.specs.declared.repr.grammar.Grammar.{Grammar}
use Rattle.program_answers.specs.declared.answer.Answer.{Answer}
use Rattle.program_answers.specs.declared.answer.Answer.TheVariants.{Usage}
use Rattle.program_answers.specs.declared.answer.Shown.{Shown}
use Rattle.program_answers.specs.Answers.{IsAnswerTo}
use Rattle.program_answers.specs.Texts.{line}
use Rattle.lrtab_run.specs.Shown.{IsShown}
use Rattle.lrtab_run.specs.Words.{Asked}

-- what `lrtab` shows of a grammar for a request: a status and a text, without a remark
pub record IsShownWhole (method : Method) (g : Grammar) (request : Asked) (s : Shown) : Type 0 where
  pub shown : IsShown method g request s.status s.text
  pub plain : string_bytes s.remark ≡ []

-- a result is that of `lrtab` for its arguments: `Usage` if they are no request, and else a result
-- for the request and the file
abbrev pub IsAnswer : Method → Option Asked → List ℕ → Option (Option (List ℕ)) → Answer → Type 0
IsAnswer method None name file answer = answer ≡ Usage
IsAnswer method (Some request) name file answer = IsAnswerTo (λ g. IsShownWhole method g request) name file answer

-- the usage text of `lrtab`
abbrev pub usage : List ℕ
usage = line (codes "usage: lrtab FILE START (parse LIMIT TOKEN.. | report | explain)")
