-- Texts as literals of Python.
use Rattle.std.specs.Prelude.{ℕ, ◌-◌, ◌^◌, false, nat_le, nat_lt, ◌&&◌, ◌||◌, ◌==◌, if◌then◌else◌, List, [], ◌++◌, codes}
use Rattle.std.specs.Char.{encode_utf8}
use Rattle.std.specs.Fmt.{digits, format_spec, padded_integral}
use Rattle.std.specs.List.{flat_map}
use Rattle.std.specs.Str.{chars}

-- a number in hexadecimal, with zeros before it if it has fewer digits
abbrev pub hexadecimal : ℕ → ℕ → List ℕ
hexadecimal width n = padded_integral (format_spec 32 0 4 width (2 ^ 64 - 1)) false [] (digits 16 false n)

-- the number of a character, in two, four or eight digits
abbrev pub number_text : ℕ → List ℕ
number_text n = if nat_lt n 256 then codes "\\x" ++ hexadecimal 2 n else if nat_lt n 65536 then codes "\\u" ++ hexadecimal 4 n else codes "\\U" ++ hexadecimal 8 n

-- a character in a literal: a double quote or a backslash after a backslash, another printable one of
-- ASCII as it is, and any other by its number
abbrev pub char_text : ℕ → List ℕ
char_text c = if c == 34 || c == 92 then codes "\\" ++ encode_utf8 c else if nat_le 32 c && nat_le c 126 then encode_utf8 c else number_text c

-- the literal of a text
abbrev pub quoted : List ℕ → List ℕ
quoted text = codes "\"" ++ (flat_map char_text (chars text) ++ codes "\"")
