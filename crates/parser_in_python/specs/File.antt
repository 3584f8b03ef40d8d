-- The text of a file for Python.
use Rattle.std.specs.Prelude.{ℕ, List, ◌++◌, codes, string_bytes}
use Rattle.parser_in_python.specs.Classes.{classes_text}
use Rattle.parser_in_python.specs.Tables.{tables_text}
use Rattle.parser_in_python.specs.declared.driver.TheConstants.{DRIVER, LOOKUP}
use Rattle.parser_in_python.specs.declared.file.PythonFile.{PythonFile}

-- the whole file
abbrev pub file_text : PythonFile → List ℕ
file_text file = string_bytes file.heading ++ (classes_text file ++ (tables_text file ++ (LOOKUP.now ++ (codes "\n\n" ++ DRIVER.now))))
