-- Texts as literals of Rust.
use Rattle.std.specs.Prelude.{ℕ, ◌||◌, ◌==◌, if◌then◌else◌, List, ◌++◌, codes}
use Rattle.std.specs.Char.{encode_utf8}
use Rattle.std.specs.List.{flat_map}
use Rattle.std.specs.Str.{chars}
use Rattle.symbol_texts.specs.Comments.{visible_char}

-- a character in a literal: a double quote or a backslash after a backslash, and any other as it is
-- shown in comments
abbrev pub char_text : ℕ → List ℕ
char_text c = if c == 34 || c == 92 then codes "\\" ++ encode_utf8 c else visible_char c

-- the literal of a text
abbrev pub quoted : List ℕ → List ℕ
quoted text = codes "\"" ++ (flat_map char_text (chars text) ++ codes "\"")
