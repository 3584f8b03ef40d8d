-- Texts in pieces.
use Rattle.std.specs.Prelude.{ℕ, List, ◌++◌, String, string_bytes}

-- the bytes of a piece: those of its string, and those of its line
abbrev pub piece_text : {A : Type 0} → String A × List ℕ → List ℕ
piece_text piece = string_bytes piece.0 ++ piece.1
