-- Results of checks.
use Rattle.std.proofs.Common.{◌≡◌, ℕ, inr, List, Option, None, Some, subst}
use Rattle.std.specs.Prelude.{IfSome, position}
use Rattle.std.specs.Str.{IsUtf8}
use Rattle.lalrpop_grammar.specs.declared.repr.NonterminalString.{NonterminalString}
use Rattle.lalrpop_grammar.specs.declared.repr.grammar.Grammar.{Grammar}
use Rattle.lalrpop_construction.specs.declared.options.Method.{Method}
use Rattle.grammar_text.specs.Lines.{lines_of, is_fault}
use Rattle.grammar_text.specs.Grammar.{StandsFor}
use Rattle.grammar_text.specs.Symbols.{name_of}
use Rattle.program_answers.specs.declared.answer.Answer.{Answer}
use Rattle.program_answers.specs.declared.answer.Answer.TheVariants.{Output, Fault, Usage, TooManyActions, Memory}
use Rattle.program_answers.specs.Answers.{OfFile, inlined}
use Rattle.lrshow_check.specs.Check.{AreRightFindings, AreWarned, IsCheckAnswer, IsLastAnswer}
use Rattle.lrshow_check.specs.Findings.{Finding}
use Rattle.lrshow_arguments.specs.Words.{AskedCheck}

of_file : (P : List ℕ → Type 0) (bytes : List ℕ) (known : Option (List ℕ)) → IfSome known (λ xs. bytes ≡ xs) → P bytes → OfFile P (Some known)
of_file P bytes None e p = tt
of_file P bytes (Some xs) e p = subst P e p

-- a result after the warnings of the grammar that a text gives is a result for the text
pub checked_grammar : (method : Method) (asked : AskedCheck) (start : NonterminalString) (name text : List ℕ) (warned : List Finding) (g : Grammar) (answer : Answer) → start ≡ name_of asked.start → IsUtf8 text → position is_fault (lines_of text) ≡ None → StandsFor (lines_of text) g → AreWarned text start g warned
    → IsLastAnswer method start asked name text warned g answer → IsCheckAnswer method asked name (Some (Some text)) answer
checked_grammar method asked start name text warned g (Output s) same utf8 right stands warnings h = record {
  utf8 = utf8;
  found = h.0;
  are = inr (subst (λ (a : NonterminalString). AreRightFindings method a text h.0) same (record { right = right; grammar = g; stands = stands; warned = warned; warnings = warnings; whole = h.1 }));
  shown = h.2;
}
checked_grammar method asked start name text warned g (Fault message) same utf8 right stands warnings h = absurd h
checked_grammar method asked start name text warned g Usage same utf8 right stands warnings h = absurd h
checked_grammar method asked start name text warned g TooManyActions same utf8 right stands warnings h = inlined g utf8 stands h
checked_grammar method asked start name text warned g Memory same utf8 right stands warnings h = tt
