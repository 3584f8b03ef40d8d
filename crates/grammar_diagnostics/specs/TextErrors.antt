-- The errors of a grammar text: the lines that are no grammar lines by `grammar_text`.
use Rattle.std.specs.Prelude.{◌≡◌, ◌==◌, ◌≤◌, ℕ, ◌+◌, nat_lt, nat_le, Bool, ◌||◌, List, [], ◌∷◌, ◌++◌, length, filter, take, Option, None, Some, option_map, slice_get, if◌then◌else◌}
use Rattle.std.specs.List.{slice_split}
use Rattle.lalrpop_grammar.specs.declared.repr.Span.{Span}
use Rattle.grammar_text.specs.declared.lines.PlacedLine.{PlacedLine}
use Rattle.grammar_text.specs.Lines.{is_fault, lines_of, without_cr}
use Rattle.grammar_diagnostics.specs.declared.reason.Reason.{Reason}
use Rattle.grammar_diagnostics.specs.declared.text_errors.TextError.{TextError as ErrorWords}
use Rattle.grammar_diagnostics.specs.Pieces.{Piece, pieces_from, words_at}
use Rattle.grammar_diagnostics.specs.Faults.{Fault, fault_of}

-- an error: the number of its line, the column and the place of its faulty word in the text, the
-- word, and what is wrong with it
pub record TextError : Type 0 where
  pub line : ℕ
  pub column : ℕ
  pub span : Span
  pub word : List ℕ
  pub reason : Reason

-- an error, from the type of the code
abbrev pub error_view : ErrorWords → TextError
error_view e = record { line = e.line; column = e.column; span = e.span; word = e.word.now; reason = e.reason }

-- the number of the line of an error
abbrev pub line_number : ErrorWords → ℕ
line_number e = e.line

-- whether a byte of a UTF-8 text is the first one of a character (RFC 3629, section 3)
abbrev pub starts_character : ℕ → Bool
starts_character b = nat_lt b 128 || nat_le 192 b

-- the column of what begins at an offset of a line: one more than the number of characters before
abbrev pub column_of : List ℕ → ℕ → ℕ
column_of line start = length (filter starts_character (take start line)) + 1

-- the error of a fault in a line with a number
abbrev pub error_of : ℕ → Piece → Fault → TextError
error_of number line fault = record {
  line = number;
  column = column_of line.bytes fault.word.start;
  span = record { 0 = line.start + fault.word.start; 1 = line.start + fault.word.start + length fault.word.bytes };
  word = fault.word.bytes;
  reason = fault.reason;
}

-- the fault of a line, if it is no grammar line
abbrev pub line_fault : List ℕ → Option Fault
line_fault line = fault_of (words_at 0 (without_cr line))

-- the element that is there, if there is one, in a list
abbrev pub option_list : {A : Type 0} → Option A → List A
option_list None = []
option_list (Some x) = x ∷ []

-- the error of a line with a number, if it is no grammar line
abbrev pub line_errors : ℕ → Piece → List TextError
line_errors number line = option_list (option_map (error_of number line) (line_fault line.bytes))

-- the errors of lines, of which the first has a number
abbrev pub errors_from : ℕ → List Piece → List TextError
errors_from number [] = []
errors_from number (l ∷ ls) = line_errors number l ++ errors_from (number + 1) ls

-- the errors of a text, whose lines are separated by LF and counted from 1
abbrev pub errors_of : List ℕ → List TextError
errors_of text = errors_from 1 (pieces_from 0 (slice_split (λ b. b == 10) text))

-- the numbers of the lines that are no grammar lines, if the first line has a number
abbrev pub faulty_from : ℕ → List PlacedLine → List ℕ
faulty_from number [] = []
faulty_from number (l ∷ ls) = if is_fault l then number ∷ faulty_from (number + 1) ls else faulty_from (number + 1) ls

-- the numbers of the lines that are no grammar lines, counted from 1
abbrev pub faulty_lines : List PlacedLine → List ℕ
faulty_lines lines = faulty_from 1 lines

-- an error is in its line: the place of its faulty word lies in that of the line
pub record IsPlacedIn (text : List ℕ) (e : TextError) : Type 0 where
  pub place : ℕ
  pub counted : e.line ≡ place + 1
  pub line : PlacedLine
  pub there : slice_get (lines_of text) place ≡ Some line
  pub begins : line.span.0 ≤ e.span.0
  pub ends : e.span.1 ≤ line.span.1

-- each error of a list is in its line
abbrev pub ArePlacedIn : List ℕ → List TextError → Type 0
ArePlacedIn text errors = (k : ℕ) (e : TextError) → slice_get errors k ≡ Some e → IsPlacedIn text e
