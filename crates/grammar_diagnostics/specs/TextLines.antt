-- The lines of a text with their places, and the line in which an offset is.
use Rattle.std.specs.Prelude.{◌≡◌, ◌==◌, ℕ, ◌-◌, nat_le, Bool, List, length, map, find, Option}
use Rattle.std.specs.List.{slice_split}
use Rattle.grammar_diagnostics.specs.declared.text_lines.TextLines.{TextLines}
use Rattle.grammar_diagnostics.specs.Pieces.{Piece, piece_view, pieces_from}

-- the lines of a text, which LF separates
abbrev pub text_lines : List ℕ → List Piece
text_lines text = pieces_from 0 (slice_split (λ b. b == 10) text)

-- the lines are those of their text
abbrev pub AreTextLines : TextLines → Type 0
AreTextLines l = map piece_view l.lines.items ≡ text_lines l.text.now

-- whether an offset is not after the end of a line, whose LF has the offset of its end
abbrev pub ends_after : ℕ → Piece → Bool
ends_after offset line = nat_le (offset - line.start) (length line.bytes)

-- the line of a text in which an offset is, if there is one
abbrev pub line_with : ℕ → List ℕ → Option Piece
line_with offset text = find (ends_after offset) (text_lines text)
