-- The text of a file for C.
use Rattle.std.specs.Prelude.{ℕ, List, ◌++◌, codes, string_bytes}
use Rattle.parser_in_c.specs.Arrays.{tables_text}
use Rattle.parser_in_c.specs.Enumerations.{counts_text, enumeration_text, fixed_in, literals_text}
use Rattle.parser_in_c.specs.declared.driver.TheConstants.{DRIVER}
use Rattle.parser_in_c.specs.declared.file.CFile.{CFile}
use Rattle.parser_in_c.specs.declared.lookup.TheConstants.{INTERFACE, LOOKUP}

-- the constants, and the texts of symbols
abbrev pub constants_text : CFile → List ℕ
constants_text file = enumeration_text file (codes "terminal") (codes "T_") file.terminals.items
    ++ (enumeration_text file (codes "nonterminal") (codes "N_") file.nonterminals.items
    ++ (enumeration_text file (codes "production") (codes "P_") file.productions.items
    ++ (counts_text file
    ++ (literals_text file (codes "terminal_texts") (codes "the text of a terminal") file.terminal_literals.items
    ++ literals_text file (codes "nonterminal_texts") (codes "the name of a nonterminal") file.nonterminal_literals.items))))

-- the whole file
abbrev pub file_text : CFile → List ℕ
file_text file = string_bytes file.heading
    ++ (fixed_in file (codes "\n#ifndef $TABLES\n#define $TABLES\n\n#include <stddef.h>\n#include <stdint.h>\n\n")
    ++ (constants_text file ++ (tables_text (string_bytes file.small) file.arrays.items
    ++ (fixed_in file LOOKUP.now ++ (codes "\n" ++ (fixed_in file INTERFACE.now ++ (codes "\n" ++ (fixed_in file DRIVER.now ++ codes "\n#endif\n"))))))))
