-- The arrays of a file for Rust, which are one value.
use Rattle.std.specs.Prelude.{ℕ, List, ◌++◌, codes, length, string_bytes}
use Rattle.std.specs.Fmt.{decimal}
use Rattle.std.specs.List.{flat_map}
use Rattle.file_parts.specs.Bits.{bits_text}
use Rattle.file_parts.specs.Lines.{number_lines}
use Rattle.file_parts.specs.declared.parts.Array.{Array}

-- the comment and the type of an array
abbrev pub array_type : Array → List ℕ
array_type a = codes "    /// " ++ (string_bytes a.comment ++ (codes "\n    " ++ (string_bytes a.name ++ (codes ": [u" ++ (bits_text a.numbers.items ++ (codes "; " ++ (decimal (length a.numbers.items) ++ codes "],\n")))))))

-- the value of an array
abbrev pub array_value : Array → List ℕ
array_value a = codes "    " ++ (string_bytes a.name ++ (codes ": [\n" ++ (number_lines (codes "        ") a.numbers.items ++ codes "    ],\n")))

-- the arrays as one value
abbrev pub tables_text : List Array → List ℕ
tables_text arrays = codes "struct Tables {\n" ++ (flat_map array_type arrays ++ (codes "}\n\n#[rustfmt::skip]\nstatic TABLES: Tables = Tables {\n" ++ (flat_map array_value arrays ++ codes "};\n\n")))
