-- The enumerations of a file for Rust.
use Rattle.std.specs.Prelude.{ℕ, nat_le, if◌then◌else◌, List, ◌++◌, codes, length, string_bytes}
use Rattle.std.specs.List.{flat_map}
use Rattle.file_parts.specs.declared.parts.Constant.{Constant}

-- the bits of the smallest numbers of so many constants
abbrev pub count_bits : ℕ → List ℕ
count_bits count = if nat_le count 256 then codes "8" else if nat_le count 65536 then codes "16" else codes "32"

-- the comment and the name of a constant
abbrev pub variant_lines : Constant → List ℕ
variant_lines c = codes "    /// " ++ (string_bytes c.comment ++ (codes "\n    " ++ (string_bytes c.name ++ codes ",\n")))

-- an enumeration of constants
abbrev pub enumeration_text : List ℕ → List ℕ → List Constant → List ℕ
enumeration_text comment name constants = codes "/// " ++ (comment ++ (codes "\n#[derive(Clone, Copy, Debug, PartialEq, Eq, PartialOrd, Ord, Hash)]\n" ++ (codes "#[repr(u" ++ (count_bits (length constants) ++ (codes ")]\npub enum " ++ (name
    ++ (codes " {\n" ++ (flat_map variant_lines constants ++ codes "}\n\n"))))))))
