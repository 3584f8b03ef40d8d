-- The texts of strings.
use Rattle.std.specs.Prelude.{ℕ, List, map, String, string_bytes}
use Rattle.std.specs.declared.alloc.Global.{Global}

-- the texts of strings, in order
abbrev pub texts_of : List (String Global) → List (List ℕ)
texts_of strings = map string_bytes strings
