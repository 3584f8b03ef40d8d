-- The check of tables that a caller gives as numbers. A text and a start symbol are lists of bytes.
use Rattle.std.specs.Prelude.{◌≡◌, ◌<◌, ◌++◌, ℕ, List, [], None, Some, codes, length, string_bytes}
use Rattle.std.specs.BTreeMap.{get}
use Rattle.std.specs.Str.{IsUtf8}
use Rattle.grammar_text.specs.Symbols.{name_of}
use Rattle.lalrpop_base.specs.Words.{AreCoherent, Bits, name_cmp}
use Rattle.lalrpop_grammar.specs.declared.repr.NonterminalString.{NonterminalString}
use Rattle.lalrpop_grammar.specs.declared.repr.grammar.Grammar.{Grammar}
use Rattle.lalrpop_states.specs.declared.lr1_core.state.State.{State}
use Rattle.lalrpop_tables.specs.Words.{PassCheck}
use Rattle.program_answers.specs.Answers.{IsAnswerTo}
use Rattle.program_answers.specs.Texts.{line}
use Rattle.program_answers.specs.declared.answer.Answer.{Answer}
use Rattle.program_answers.specs.declared.answer.Shown.{Shown}
use Rattle.table_numbers.specs.Words.{AreFaithfulWithItems, AreWholeNumbersOf, lists_of}
use Rattle.lr1_calls.specs.Copied.{IsGiven}

-- a status and a message alone are shown
pub record IsMessage (status : ℕ) (message : List ℕ) (s : Shown) : Type 0 where
  pub ended : s.status ≡ status
  pub text : s.text ≡ []
  pub remark : string_bytes s.remark ≡ message

-- states do not pass the check: they are not coherent, or there is none, or not all is as it asks
abbrev pub FailCheck : Grammar → NonterminalString → List (State Bits) → Type 0
FailCheck g start states = AreCoherent states → 0 < length states → PassCheck g start states → ⊥

-- a message says that the tables have a fault
pub record IsRefusal (s : Shown) : Type 0 where
  pub why : List ℕ
  pub message : IsMessage 2 (line (codes "the tables: " ++ why)) s

-- the numbers are those of states that do not pass the check, with their items
pub record AreRefused (start : NonterminalString) (numbers : List ℕ) (g : Grammar) : Type 0 where
  pub states : List (State Bits)
  pub laid_out : AreWholeNumbersOf (lists_of g) numbers states
  pub fail : FailCheck g start states

-- what is shown of numbers is right for a grammar without marked nonterminals and a start symbol
pub data IsVerdictFor (start : NonterminalString) (numbers : List ℕ) (g : Grammar) (s : Shown) : Type 0 where
  -- the tables are faithful
  faithful : IsMessage 0 [] s → AreFaithfulWithItems (lists_of g) start numbers → IsVerdictFor start numbers g s
  -- they do not pass the check
  refused : IsMessage 1 (line (codes "the tables are not faithful")) s → AreRefused start numbers g → IsVerdictFor start numbers g s
  -- the grammar does not have the start symbol
  no_start : IsMessage 2 (line (codes "the start symbol is no nonterminal")) s → get name_cmp g.nonterminals start ≡ None → IsVerdictFor start numbers g s
  -- the numbers are refused, and the message says why
  no_tables : IsRefusal s → IsVerdictFor start numbers g s

-- what is shown of numbers is right for a grammar and the bytes of a start symbol
pub data IsVerdict (start : List ℕ) (numbers : List ℕ) (g : Grammar) (s : Shown) : Type 0 where
  -- the start symbol is not UTF-8
  no_start_text : IsMessage 2 (line (codes "the start symbol is not UTF-8")) s → ¬ IsUtf8 start → IsVerdict start numbers g s
  verdict : IsUtf8 start → IsVerdictFor (name_of start) numbers g s → IsVerdict start numbers g s

-- a call has a status, and it copied the message of a right result to a room
pub record IsChecked (text start : List ℕ) (numbers : List ℕ) (status : ℕ) (old new : List ℕ) (count : ℕ) : Type 0 where
  pub answer : Answer
  pub right : IsAnswerTo (IsVerdict start numbers) (codes "grammar") (Some (Some text)) answer
  pub given : IsGiven answer status old new count
