-- Fixed texts in which names have a prefix.
use Rattle.std.specs.Prelude.{ℕ, ◌==◌, if◌then◌else◌, List}
use Rattle.std.specs.Char.{encode_utf8}
use Rattle.std.specs.List.{flat_map}
use Rattle.std.specs.Str.{chars}

-- a character of a fixed text: the prefix in small letters for `@`, that in capitals for `$`, and any
-- other one as it is
abbrev pub fixed_char : List ℕ → List ℕ → ℕ → List ℕ
fixed_char small big c = if c == 64 then small else if c == 36 then big else encode_utf8 c

-- a fixed text with its prefixes
abbrev pub fixed_text : List ℕ → List ℕ → List ℕ → List ℕ
fixed_text small big text = flat_map (fixed_char small big) (chars text)
