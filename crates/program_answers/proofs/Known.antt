-- Results for a file whose bytes may be known.
use Rattle.std.proofs.Common.{◌≡◌, ℕ, inl, inr, List, Option, None, Some, Result, Ok, Err, subst}
use Rattle.std.specs.Prelude.{IfSome, IfOk, position, string_bytes}
use Rattle.std.specs.Str.{IsUtf8}
use Rattle.lalrpop_collections.specs.declared.memory.OutOfMemory.{OutOfMemory}
use Rattle.program_answers.specs.declared.answer.Answer.{Answer}
use Rattle.program_answers.specs.declared.answer.Shown.{Shown}
use Rattle.program_answers.specs.declared.answer.Answer.TheVariants.{Output, Fault, Usage, TooManyActions, Memory}
use Rattle.grammar_text.specs.declared.read_error.ReadError.TheVariants.{Line as LineFault}
use Rattle.grammar_text.specs.Lines.{lines_of, is_fault}
use Rattle.grammar_text.specs.Faults.{IsFaultOf}
use Rattle.grammar_text.specs.Grammar.{StandsFor}
use Rattle.lalrpop_grammar.specs.declared.repr.grammar.Grammar.{Grammar}
use Rattle.program_answers.specs.Answers.{OfFile, IsOutputOf, HasInlineCycle, IsTooMany, inlined, IsFaultText, IsAnswerTo, IsAnswerToGrammar}

of_file : (P : List ℕ → Type 0) (bytes : List ℕ) (known : Option (List ℕ)) → IfSome known (λ xs. bytes ≡ xs) → P bytes → OfFile P (Some known)
of_file P bytes None e p = tt
of_file P bytes (Some xs) e p = subst P e p

fault_known : (name bytes : List ℕ) (known : Option (List ℕ)) (text : List ℕ) → IfSome known (λ xs. bytes ≡ xs) → IsFaultText name (Some (Some bytes)) text → IsFaultText name (Some known) text
fault_known name bytes known text e (inl h) = inl h
fault_known name bytes known text e (inr (inl (n, h, shown))) = inr (inl (n, of_file (λ bs. IsUtf8 bs × IsFaultOf (lines_of bs) (LineFault n)) bytes known e h, shown))
fault_known name bytes known text e (inr (inr (a, h, shown))) = inr (inr (a, of_file (λ bs. HasInlineCycle bs a) bytes known e h, shown))

answer_known : (IsShown : Grammar → Shown → Type 0) (name bytes : List ℕ) (known : Option (List ℕ)) (answer : Answer) → IfSome known (λ xs. bytes ≡ xs) → IsAnswerTo IsShown name (Some (Some bytes)) answer → IsAnswerTo IsShown name (Some known) answer
answer_known IsShown name bytes known (Output s) e h = of_file (IsOutputOf IsShown s) bytes known e h
answer_known IsShown name bytes known (Fault text) e h = fault_known name bytes known (string_bytes text) e h
answer_known IsShown name bytes known Usage e h = h
answer_known IsShown name bytes known TooManyActions e h = of_file IsTooMany bytes known e h
answer_known IsShown name bytes known Memory e h = tt

-- a result for a text is a result for a file that has the text
pub told_of_file : (IsShown : Grammar → Shown → Type 0) (name bytes : List ℕ) (known : Option (List ℕ)) (r : Result Answer OutOfMemory) → IfSome known (λ xs. bytes ≡ xs) → IfOk r (IsAnswerTo IsShown name (Some (Some bytes))) → IfOk r (IsAnswerTo IsShown name (Some known))
told_of_file IsShown name bytes known (Ok answer) e h = answer_known IsShown name bytes known answer e h
told_of_file IsShown name bytes known (Err error) e h = tt

-- a result for the grammar that a text gives is a result for the text
pub told_of_text : (IsShown : Grammar → Shown → Type 0) (name bytes : List ℕ) (g : Grammar) (r : Result Answer OutOfMemory) → IsUtf8 bytes → position is_fault (lines_of bytes) ≡ None → StandsFor (lines_of bytes) g → IfOk r (IsAnswerToGrammar IsShown g) → IfOk r (IsAnswerTo IsShown name (Some (Some bytes)))
told_of_text IsShown name bytes g (Ok (Output s)) utf8 right stands h = record { utf8 = utf8; right = right; grammar = g; stands = stands; shown = h }
told_of_text IsShown name bytes g (Ok (Fault text)) utf8 right stands h = inr (inr (h.0, record { utf8 = utf8; right = right; grammar = g; stands = stands; ring = h.1 }, h.2))
told_of_text IsShown name bytes g (Ok Usage) utf8 right stands h = h
told_of_text IsShown name bytes g (Ok TooManyActions) utf8 right stands h = inlined g utf8 stands h
told_of_text IsShown name bytes g (Ok Memory) utf8 right stands h = tt
told_of_text IsShown name bytes g (Err error) utf8 right stands h = tt
