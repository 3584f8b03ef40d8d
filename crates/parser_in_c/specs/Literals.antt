-- Texts as literals of C.
use Rattle.std.specs.Prelude.{ℕ, ◌/◌, ◌%◌, nat_lt, Bool, ◌||◌, ◌==◌, if◌then◌else◌, List, [], ◌++◌, codes}
use Rattle.std.specs.Char.{encode_utf8}
use Rattle.std.specs.Fmt.{decimal}
use Rattle.std.specs.List.{flat_map}

-- whether a literal has a backslash before a byte: a double quote, a question mark or a backslash
abbrev pub is_escaped : ℕ → Bool
is_escaped b = b == 34 || b == 63 || b == 92

-- a byte in a literal: three octal digits for one that is no printable character of ASCII
abbrev pub byte_text : ℕ → List ℕ
byte_text b = if nat_lt b 32 || nat_lt 126 b then codes "\\" ++ (decimal (b / 64) ++ (decimal (b / 8 % 8) ++ decimal (b % 8))) else (if is_escaped b then codes "\\" else []) ++ encode_utf8 b

-- the literal of a text
abbrev pub quoted : List ℕ → List ℕ
quoted text = codes "\"" ++ (flat_map byte_text text ++ codes "\"")
