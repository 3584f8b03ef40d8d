-- Texts of a grammar, escaped for other texts.
use Rattle.std.specs.Prelude.{ℕ, ◌+◌, ◌==◌, ◌||◌, nat_le, nat_lt, ◌&&◌, Bool, List, [], ◌∷◌, codes, if◌then◌else◌}
use Rattle.std.specs.Char.{encode_utf8}
use Rattle.std.specs.List.{flat_map}
use Rattle.std.specs.Str.{chars}

-- a byte of a JSON text: `<`, which is only in strings, is written by its number, and any other
-- byte stays
abbrev pub inert_byte : ℕ → List ℕ
inert_byte b = if b == 60 then codes "\\u003c" else b ∷ []

-- whether a byte is `<`
abbrev pub is_opening : ℕ → Bool
is_opening b = b == 60

-- a JSON text with each `<` written by its number
abbrev pub inert : List ℕ → List ℕ
inert json = flat_map inert_byte json

-- a character as it is shown: a control character below the space, or U+007F, by its picture, one from
-- U+0080 to U+009F by U+FFFD, and any other as it is
abbrev pub pictured : ℕ → ℕ
pictured c = if nat_lt c 32 then 0x2400 + c else if c == 127 then 0x2421 else if nat_le 128 c && nat_lt c 160 then 0xFFFD else c

-- a text with each control character shown by its picture
abbrev pub pictured_text : List ℕ → List ℕ
pictured_text text = flat_map (λ (c : ℕ). encode_utf8 (pictured c)) (chars text)

-- a character of a text of several lines: the end of a line, or another one as it is shown
abbrev pub line_char : ℕ → List ℕ
line_char c = if c == 10 then codes "\n" else encode_utf8 (pictured c)

-- a text of several lines with each control character in its lines shown by its picture
abbrev pub pictured_lines : List ℕ → List ℕ
pictured_lines text = flat_map line_char (chars text)

-- a character as XML: `&`, `<`, `>` and `"` by their names, a backslash twice, the two characters
-- that XML does not have by U+FFFD, a control character by its picture, and any other as it is
abbrev pub xml_char : ℕ → List ℕ
xml_char c = if c == 38 then codes "&amp;" else if c == 60 then codes "&lt;" else if c == 62 then codes "&gt;" else if c == 34 then codes "&quot;" else if c == 92 then codes "\\\\"
    else if c == 0xFFFE || c == 0xFFFF then encode_utf8 0xFFFD else encode_utf8 (pictured c)

-- whether a byte is `<`, `>` or `"`, or a control character
abbrev pub is_markup : ℕ → Bool
is_markup b = b == 60 || b == 62 || b == 34 || nat_lt b 32 || b == 127

-- a text as XML, character by character
abbrev pub xml_text : List ℕ → List ℕ
xml_text text = flat_map xml_char (chars text)
