-- The faulty word of a line of a grammar text.
use Rattle.std.specs.Prelude.{ℕ, Bool, ◌&&◌, ◌||◌, List, [], ◌∷◌, Option, None, Some, codes, is_some, if◌then◌else◌}
use Rattle.std.specs.Str.{bytes_eq}
use Rattle.grammar_text.specs.Symbols.{is_name, quoted}
use Rattle.grammar_diagnostics.specs.declared.faults.Fault.{Fault as FaultWords}
use Rattle.grammar_diagnostics.specs.declared.reason.Reason.{Reason}
use Rattle.grammar_diagnostics.specs.declared.reason.Reason.TheVariants.{NoLeftSide, LeftSide, NoEquals, NotEquals, Mark, AfterMark, EmptyLiteral, Symbol}
use Rattle.grammar_diagnostics.specs.Pieces.{Piece, piece_view}

-- a faulty word, and what is wrong with it
pub record Fault : Type 0 where
  pub reason : Reason
  pub word : Piece

-- a fault, from the type of the code
abbrev pub fault_view : FaultWords → Fault
fault_view f = record { reason = f.reason; word = piece_view f.word }

-- what is wrong with the first word of a line
abbrev pub first_reason : List ℕ → Reason
first_reason word = if bytes_eq word (codes "=") then NoLeftSide else (if is_name word then NoEquals else LeftSide)

-- what is wrong with the first word of a line without a second one
abbrev pub lone_fault : Piece → Fault
lone_fault w = record { reason = first_reason w.bytes; word = w }

-- whether a word is a name or a literal
abbrev pub is_symbol : List ℕ → Bool
is_symbol word = is_name word || is_some (quoted word)

-- what is wrong with a word of a right side that is no symbol
abbrev pub word_reason : List ℕ → Reason
word_reason word = if bytes_eq word (codes "\"\"") then EmptyLiteral else Symbol

-- the first word of a right side that is no symbol
abbrev pub right_fault : List Piece → Option Fault
right_fault [] = None
right_fault (w ∷ ws) = if is_symbol w.bytes then right_fault ws else Some (record { reason = word_reason w.bytes; word = w })

-- what is wrong after a mark: its first word, if there is one
abbrev pub fault_after_mark : List Piece → Option Fault
fault_after_mark [] = None
fault_after_mark (w ∷ ws) = Some (record { reason = AfterMark; word = w })

-- the faulty one of two words that begin neither a production nor a mark
abbrev pub other_fault : Piece → Piece → Fault
other_fault w v = if is_name w.bytes then (if bytes_eq w.bytes (codes "inline") then record { reason = Mark; word = v } else record { reason = NotEquals; word = v }) else lone_fault w

-- the faulty word of a line without a name and `=` at its beginning, if the line is no mark
abbrev pub mark_fault : Piece → Piece → List Piece → Option Fault
mark_fault w v ws = if bytes_eq w.bytes (codes "inline") && is_name v.bytes then fault_after_mark ws else Some (other_fault w v)

-- the faulty word of a line of these words, if the line is no grammar line
abbrev pub fault_of : List Piece → Option Fault
fault_of [] = None
fault_of (w ∷ []) = Some (lone_fault w)
fault_of (w ∷ v ∷ ws) = if bytes_eq v.bytes (codes "=") && is_name w.bytes then right_fault ws else mark_fault w v ws
