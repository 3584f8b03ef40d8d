-- The lists of constants and of texts of a file for Rust.
use Rattle.std.specs.Prelude.{ℕ, List, ◌++◌, codes, length, String, string_bytes}
use Rattle.std.specs.declared.alloc.Global.{Global}
use Rattle.std.specs.Fmt.{decimal}
use Rattle.std.specs.List.{flat_map}
use Rattle.file_parts.specs.declared.parts.Constant.{Constant}

-- the name and the type of a list
abbrev pub list_head : List ℕ → List ℕ → ℕ → List ℕ
list_head name kind len = name ++ (codes ": [" ++ (kind ++ (codes "; " ++ (decimal len ++ codes "] = [\n"))))

-- the line of a constant of a kind
abbrev pub member_line : List ℕ → Constant → List ℕ
member_line kind c = codes "    " ++ (kind ++ (codes "::" ++ (string_bytes c.name ++ codes ",\n")))

-- the list of all constants of a kind
abbrev pub members_text : List ℕ → List ℕ → List ℕ → List Constant → List ℕ
members_text comment name kind constants = codes "/// " ++ (comment ++ (codes ", by number\n#[rustfmt::skip]\npub static " ++ (list_head name kind (length constants) ++ (flat_map (member_line kind) constants ++ codes "];\n\n"))))

-- the line of a literal
abbrev pub literal_line : String Global → List ℕ
literal_line literal = codes "    " ++ (string_bytes literal ++ codes ",\n")

-- a list of texts
abbrev pub literals_text : List ℕ → List ℕ → List (String Global) → List ℕ
literals_text comment name literals = codes "/// " ++ (comment ++ (codes "\n#[rustfmt::skip]\nstatic " ++ (list_head name (codes "&str") (length literals) ++ (flat_map literal_line literals ++ codes "];\n\n"))))
