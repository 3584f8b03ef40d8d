-- The files of a parse table and of packed arrays.
use Rattle.std.specs.Prelude.{◌≡◌, ℕ, Bool, true, false, List, ◌++◌, codes}
use Rattle.std.specs.Str.{str_to_ascii_uppercase}
use Rattle.file_parts.specs.declared.parts.Array.{Array}
use Rattle.packed_tables.specs.declared.packed.PackedTables.{PackedTables}
use Rattle.parse_tables.specs.declared.table.ParseTable.{ParseTable}
use Rattle.parser_in_c.specs.declared.file.CFile.{CFile}
use Rattle.parser_in_c.specs.File as InC
use Rattle.parser_in_c.specs.Parts as PartsInC
use Rattle.parser_in_python.specs.declared.file.PythonFile.{PythonFile}
use Rattle.parser_in_python.specs.File as InPython
use Rattle.parser_in_python.specs.Parts as PartsInPython
use Rattle.parser_in_rust.specs.declared.file.RustFile.{RustFile}
use Rattle.parser_in_rust.specs.File as InRust
use Rattle.parser_in_rust.specs.Parts as PartsInRust
use Rattle.parser_text.specs.FileArrays.{file_arrays, parts_of}
use Rattle.parser_text.specs.Sides.{AreLeftSides, AreLengths}
use Rattle.parser_text.specs.Texts.{IsGrammarOf}
use Rattle.symbol_texts.specs.Heading.{heading_text}
use Rattle.symbol_texts.specs.declared.grammar.GrammarTexts.{GrammarTexts}

-- texts are those of a table, and arrays are packed arrays and those of the sides of productions
pub record ArePartsOf (capitals : Bool) (t : ParseTable) (packed : PackedTables) (grammar : GrammarTexts) (arrays : List Array) (set_bytes : ℕ) : Type 0 where
  pub texts : IsGrammarOf grammar t
  pub left : List ℕ
  pub left_sides : AreLeftSides t left
  pub lengths : List ℕ
  pub right_lengths : AreLengths t lengths
  pub listed : parts_of arrays ≡ file_arrays capitals packed left lengths
  pub bytes : set_bytes ≡ packed.set_bytes

-- how to use a file for C
abbrev pub c_usage : List ℕ → List ℕ
c_usage prefix = codes "Include it. All its names begin with " ++ (prefix ++ (codes "_ or " ++ (str_to_ascii_uppercase prefix ++ codes "_.")))

-- the comments at the tops of files
abbrev pub c_heading : List ℕ → List ℕ → ℕ → List ℕ → List ℕ
c_heading start method states prefix = heading_text (codes "//") start method states (c_usage prefix)

abbrev pub rust_heading : List ℕ → List ℕ → ℕ → List ℕ
rust_heading start method states = heading_text (codes "//") start method states (codes "Declare it as a module. It needs no crate but core and alloc.")

abbrev pub python_heading : List ℕ → List ℕ → ℕ → List ℕ
python_heading start method states = heading_text (codes "#") start method states (codes "Import it. It needs Python 3.9 and no other package.")

-- a text is the file for C with the symbols and productions of a table, and with packed arrays
pub record IsCParser (t : ParseTable) (packed : PackedTables) (states : ℕ) (start method prefix text : List ℕ) : Type 0 where
  pub grammar : GrammarTexts
  pub arrays : List Array
  pub set_bytes : ℕ
  pub of_table : ArePartsOf false t packed grammar arrays set_bytes
  pub file : CFile
  pub built : PartsInC.IsFileOf file grammar (c_heading start method states prefix) prefix arrays set_bytes
  pub is : text ≡ InC.file_text file

-- a text is such a file for Rust
pub record IsRustParser (t : ParseTable) (packed : PackedTables) (states : ℕ) (start method text : List ℕ) : Type 0 where
  pub grammar : GrammarTexts
  pub arrays : List Array
  pub set_bytes : ℕ
  pub of_table : ArePartsOf false t packed grammar arrays set_bytes
  pub file : RustFile
  pub built : PartsInRust.IsFileOf file grammar (rust_heading start method states) arrays set_bytes
  pub is : text ≡ InRust.file_text file

-- a text is such a file for Python
pub record IsPythonParser (t : ParseTable) (packed : PackedTables) (states : ℕ) (start method text : List ℕ) : Type 0 where
  pub grammar : GrammarTexts
  pub arrays : List Array
  pub set_bytes : ℕ
  pub of_table : ArePartsOf true t packed grammar arrays set_bytes
  pub file : PythonFile
  pub built : PartsInPython.IsFileOf file grammar (python_heading start method states) arrays set_bytes
  pub is : text ≡ InPython.file_text file
