-- The constants of a file for C, and the texts of symbols.
use Rattle.std.specs.Prelude.{ℕ, ◌==◌, if◌then◌else◌, List, [], ◌∷◌, ◌++◌, codes, length, String, string_bytes, vec_len}
use Rattle.std.specs.declared.alloc.Global.{Global}
use Rattle.std.specs.Fmt.{decimal}
use Rattle.std.specs.List.{flat_map}
use Rattle.file_parts.specs.Fixed.{fixed_text}
use Rattle.parser_in_c.specs.declared.file.CFile.{CFile}
use Rattle.file_parts.specs.declared.parts.Constant.{Constant}

-- the line of a constant: its name after the prefix and the letter of its kind, and its comment
abbrev pub member_line : List ℕ → List ℕ → List ℕ → Constant → List ℕ
member_line big letter comma c = codes "    " ++ (big ++ (letter ++ (string_bytes c.name ++ (comma ++ (codes " // " ++ (string_bytes c.comment ++ codes "\n"))))))

-- the comma before further constants, or nothing if there are none
abbrev pub comma_before : List Constant → List ℕ
comma_before rest = if length rest == 0 then [] else codes ","

-- the lines of constants, with a comma after each but the last
abbrev pub members_text : List ℕ → List ℕ → List Constant → List ℕ
members_text big letter [] = []
members_text big letter (c ∷ rest) = member_line big letter (comma_before rest) c ++ members_text big letter rest

-- an enumeration of constants
abbrev pub enumeration_text : CFile → List ℕ → List ℕ → List Constant → List ℕ
enumeration_text file kind letter constants = codes "typedef enum {\n" ++ (members_text (string_bytes file.big) letter constants ++ (codes "} " ++ (string_bytes file.small ++ (kind ++ codes ";\n\n"))))

-- a fixed text with the prefixes of a file
abbrev pub fixed_in : CFile → List ℕ → List ℕ
fixed_in file text = fixed_text (string_bytes file.small) (string_bytes file.big) text

-- how many terminals and productions there are, and how many bytes a set has
abbrev pub counts_text : CFile → List ℕ
counts_text file = fixed_in file (codes "enum {\n    $TERMINALS = ") ++ (decimal (vec_len file.terminals)
    ++ (fixed_in file (codes ",\n    $PRODUCTIONS = ") ++ (decimal (vec_len file.productions)
    ++ (fixed_in file (codes ",\n    $SET_BYTES = ") ++ (decimal file.set_bytes ++ codes "\n};\n\n")))))

-- the line of a literal
abbrev pub literal_line : String Global → List ℕ
literal_line literal = codes "    " ++ (string_bytes literal ++ codes ",\n")

-- an array of literals, with its comment
abbrev pub literals_text : CFile → List ℕ → List ℕ → List (String Global) → List ℕ
literals_text file name comment literals = codes "// " ++ (comment ++ (codes "\nstatic const char *const " ++ (string_bytes file.small ++ (name
    ++ (codes "[] = {\n" ++ (flat_map literal_line literals ++ codes "};\n\n"))))))
