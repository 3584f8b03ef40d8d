-- The result of a program, and how it relates to the file.
use Rattle.std.specs.Prelude.{◌≡◌, ℕ, List, [], ◌∷◌, ◌++◌, Option, None, Some, IfSome, codes, position, string_bytes}
use Rattle.std.proofs.Common.{◌⊎◌}
use Rattle.std.specs.Fmt.{decimal}
use Rattle.std.specs.Str.{IsUtf8}
use Rattle.program_answers.specs.declared.answer.Answer.{Answer}
use Rattle.program_answers.specs.declared.answer.Shown.{Shown}
use Rattle.program_answers.specs.declared.answer.Answer.TheVariants.{Output, Fault, Usage, TooManyActions, Memory}
use Rattle.grammar_text.specs.declared.read_error.ReadError.TheVariants.{Line as LineFault, TooManyActions as TooMany}
use Rattle.grammar_text.specs.Lines.{lines_of, is_fault}
use Rattle.grammar_text.specs.Faults.{IsFaultOf}
use Rattle.grammar_text.specs.Grammar.{StandsFor}
use Rattle.lalrpop_grammar.specs.declared.repr.NonterminalString.{NonterminalString}
use Rattle.lalrpop_grammar.specs.declared.repr.grammar.Grammar.{Grammar}
use Rattle.lalrpop_inline.specs.Words.{IsOnRing, HasTooMany}
use Rattle.program_answers.specs.Inlined.{IsShownInlined}
use Rattle.program_answers.specs.Texts.{line}

-- a fact holds of the bytes of a file: the file is there, and the fact holds of its bytes if they
-- are known
abbrev pub OfFile : (List ℕ → Type 0) → Option (Option (List ℕ)) → Type 0
OfFile P None = ⊥
OfFile P (Some bytes) = IfSome bytes P

-- the first argument, which names the file, or nothing if there are no arguments
abbrev pub file_name : List (List ℕ) → List ℕ
file_name [] = []
file_name (name ∷ words) = name

-- what is shown is that of a file: its bytes are UTF-8, no line is faulty, and this is shown of the
-- grammar that the lines give
pub record IsOutputOf (IsShown : Grammar → Shown → Type 0) (s : Shown) (bytes : List ℕ) : Type 0 where
  pub utf8 : IsUtf8 bytes
  pub right : position is_fault (lines_of bytes) ≡ None
  pub grammar : Grammar
  pub stands : StandsFor (lines_of bytes) grammar
  pub shown : IsShownInlined (λ g. IsShown g s) grammar

-- the grammar that a text gives has marked nonterminals that mention each other in a ring, and `a`
-- is one of them
pub record HasInlineCycle (bytes : List ℕ) (a : NonterminalString) : Type 0 where
  pub utf8 : IsUtf8 bytes
  pub right : position is_fault (lines_of bytes) ≡ None
  pub grammar : Grammar
  pub stands : StandsFor (lines_of bytes) grammar
  pub ring : IsOnRing grammar a

-- a text has more actions than numbers for them, before its marked nonterminals are inlined or
-- after
pub data IsTooMany (bytes : List ℕ) : Type 0 where
  in_text : IsUtf8 bytes → IsFaultOf (lines_of bytes) TooMany → IsTooMany bytes
  inlined : (g : Grammar) → IsUtf8 bytes → StandsFor (lines_of bytes) g → HasTooMany g → IsTooMany bytes

-- a message says what is wrong with a file: it is not there, cannot be read or is not UTF-8; or its
-- text has a faulty line, and the message has the number of the first; or the message names a
-- marked nonterminal that would have to be inlined into itself
abbrev pub IsFaultText : List ℕ → Option (Option (List ℕ)) → List ℕ → Type 0
IsFaultText name file text =
    (text ≡ line (codes "cannot read " ++ name))
    ⊎ ((n : ℕ) × OfFile (λ bytes. IsUtf8 bytes × IsFaultOf (lines_of bytes) (LineFault n)) file × (text ≡ line (codes "line " ++ decimal n ++ codes ": not a grammar line")))
    ⊎ ((a : NonterminalString) × OfFile (λ bytes. HasInlineCycle bytes a) file × (text ≡ line (codes "cyclic inline of " ++ a.text)))

-- a result is right for a file, if `IsShown` says what is shown of a grammar
abbrev pub IsAnswerTo : (Grammar → Shown → Type 0) → List ℕ → Option (Option (List ℕ)) → Answer → Type 0
IsAnswerTo IsShown name file (Output s) = OfFile (IsOutputOf IsShown s) file
IsAnswerTo IsShown name file (Fault text) = IsFaultText name file (string_bytes text)
IsAnswerTo IsShown name file Usage = ⊥
IsAnswerTo IsShown name file TooManyActions = OfFile IsTooMany file
IsAnswerTo IsShown name file Memory = Unit {0}

-- a result is right for a grammar, if `IsShown` says what is shown of a grammar
abbrev pub IsAnswerToGrammar : (Grammar → Shown → Type 0) → Grammar → Answer → Type 0
IsAnswerToGrammar IsShown g (Output s) = IsShownInlined (λ h. IsShown h s) g
IsAnswerToGrammar IsShown g (Fault text) = (a : NonterminalString) × IsOnRing g a × (string_bytes text ≡ line (codes "cyclic inline of " ++ a.text))
IsAnswerToGrammar IsShown g Usage = ⊥
IsAnswerToGrammar IsShown g TooManyActions = HasTooMany g
IsAnswerToGrammar IsShown g Memory = Unit {0}
