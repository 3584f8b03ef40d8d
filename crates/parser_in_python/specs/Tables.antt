-- The texts of symbols and the arrays of a file for Python.
use Rattle.std.specs.Prelude.{ℕ, List, ◌++◌, codes, String, string_bytes}
use Rattle.std.specs.declared.alloc.Global.{Global}
use Rattle.std.specs.Fmt.{decimal}
use Rattle.std.specs.List.{flat_map}
use Rattle.file_parts.specs.Lines.{number_lines}
use Rattle.file_parts.specs.declared.parts.Array.{Array}
use Rattle.parser_in_python.specs.declared.file.PythonFile.{PythonFile}
use Rattle.parser_in_python.specs.declared.tables.TheConstants.{AFTER_ARRAYS, AFTER_SET_BYTES, BEFORE_NONTERMINAL_TEXTS, BEFORE_TERMINAL_TEXTS}

-- the line of a literal
abbrev pub literal_line : String Global → List ℕ
literal_line literal = codes "    " ++ (string_bytes literal ++ codes ",\n")

-- an array with its comment
abbrev pub array_text : Array → List ℕ
array_text a = codes "# " ++ (string_bytes a.comment ++ (codes "\n_" ++ (string_bytes a.name ++ (codes ": tuple[int, ...] = (\n" ++ (number_lines (codes "    ") a.numbers.items ++ codes ")\n")))))

-- the texts of symbols, and the arrays
abbrev pub tables_text : PythonFile → List ℕ
tables_text file = BEFORE_TERMINAL_TEXTS.now ++ (flat_map literal_line file.terminal_literals.items ++ (BEFORE_NONTERMINAL_TEXTS.now ++ (flat_map literal_line file.nonterminal_literals.items
    ++ (codes ")\n" ++ (flat_map array_text file.arrays.items ++ (AFTER_ARRAYS.now ++ (decimal file.set_bytes ++ AFTER_SET_BYTES.now)))))))
