-- The classes of constants of a file for Python.
use Rattle.std.specs.Prelude.{ℕ, ◌+◌, List, [], ◌∷◌, ◌++◌, codes, string_bytes}
use Rattle.std.specs.Fmt.{decimal}
use Rattle.file_parts.specs.declared.parts.Constant.{Constant}
use Rattle.parser_in_python.specs.declared.classes.TheConstants.{AFTER_PRODUCTIONS, BEFORE_NONTERMINALS, BEFORE_PRODUCTIONS, BEFORE_TERMINALS}
use Rattle.parser_in_python.specs.declared.file.PythonFile.{PythonFile}

-- the line of a constant: its name, its number and its comment
abbrev pub member_line : ℕ → Constant → List ℕ
member_line number c = codes "    " ++ (string_bytes c.name ++ (codes " = " ++ (decimal number ++ (codes "  # " ++ (string_bytes c.comment ++ codes "\n")))))

-- the lines of constants, the first of which has a number
abbrev pub members_from : ℕ → List Constant → List ℕ
members_from number [] = []
members_from number (c ∷ cs) = member_line number c ++ members_from (number + 1) cs

-- the classes of terminals, nonterminals and productions
abbrev pub classes_text : PythonFile → List ℕ
classes_text file = BEFORE_TERMINALS.now ++ (members_from 0 file.terminals.items ++ (BEFORE_NONTERMINALS.now ++ (members_from 0 file.nonterminals.items
    ++ (BEFORE_PRODUCTIONS.now ++ (members_from 0 file.productions.items ++ AFTER_PRODUCTIONS.now)))))
