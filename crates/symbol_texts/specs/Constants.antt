-- The names and the comments of constants.
use Rattle.std.specs.Prelude.{ℕ, List, map, string_bytes}
use Rattle.file_parts.specs.declared.parts.Constant.{Constant}

-- the name and the comment of a constant
abbrev pub constant_text : Constant → List ℕ × List ℕ
constant_text c = (string_bytes c.name, string_bytes c.comment)

-- those of constants, in order
abbrev pub constant_texts : List Constant → List (List ℕ × List ℕ)
constant_texts constants = map constant_text constants
