-- Parts of a text with their places. A text is a list of bytes.
use Rattle.std.specs.Prelude.{◌==◌, ℕ, ◌+◌, Bool, not, List, [], ◌∷◌, length, filter}
use Rattle.std.specs.List.{slice_split, flat_map}
use Rattle.grammar_text.specs.Lines.{is_empty}
use Rattle.grammar_diagnostics.specs.declared.pieces.Piece.{Piece as PieceWords}

-- a part of a text: the offset of its first byte, and its bytes
pub record Piece : Type 0 where
  pub start : ℕ
  pub bytes : List ℕ

-- a part, from the type of the code
abbrev pub piece_view : PieceWords → Piece
piece_view p = record { start = p.start; bytes = p.text.now }

-- parts of which the first begins at an offset, and each next one after the byte that separates it
-- from the one before
abbrev pub pieces_from : ℕ → List (List ℕ) → List Piece
pieces_from at [] = []
pieces_from at (p ∷ ps) = record { start = at; bytes = p } ∷ pieces_from (at + (length p + 1)) ps

-- whether a part is a word, which has a byte
abbrev pub is_word : Piece → Bool
is_word p = not (is_empty p.bytes)

-- the parts of a part between its tabs
abbrev pub between_tabs : Piece → List Piece
between_tabs p = pieces_from p.start (slice_split (λ b. b == 9) p.bytes)

-- the words of a line that begins at an offset: the parts between spaces and tabs that are not
-- empty, each with its place
abbrev pub words_at : ℕ → List ℕ → List Piece
words_at at line = filter is_word (flat_map between_tabs (pieces_from at (slice_split (λ b. b == 32) line)))
