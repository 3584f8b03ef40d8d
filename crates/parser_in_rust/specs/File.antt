-- The text of a file for Rust.
use Rattle.std.specs.Prelude.{ℕ, List, ◌++◌, codes, string_bytes}
use Rattle.std.specs.Fmt.{decimal}
use Rattle.parser_in_rust.specs.Arrays.{tables_text}
use Rattle.parser_in_rust.specs.Enumerations.{enumeration_text}
use Rattle.parser_in_rust.specs.Lists.{literals_text, members_text}
use Rattle.parser_in_rust.specs.declared.driver.TheConstants.{DRIVER}
use Rattle.parser_in_rust.specs.declared.file.RustFile.{RustFile}
use Rattle.parser_in_rust.specs.declared.file.TheConstants.{HEAD}
use Rattle.parser_in_rust.specs.declared.interface.TheConstants.{INTERFACE, LOOKUP}

-- the constants, the lists of them, and the texts of symbols
abbrev pub constants_text : RustFile → List ℕ
constants_text file = enumeration_text (codes "A terminal, or the end of the input.") (codes "Terminal") file.terminals.items
    ++ (enumeration_text (codes "A nonterminal.") (codes "Nonterminal") file.nonterminals.items
    ++ (enumeration_text (codes "A production.") (codes "Production") file.productions.items
    ++ (members_text (codes "the terminals") (codes "TERMINALS") (codes "Terminal") file.terminals.items
    ++ (members_text (codes "the nonterminals") (codes "NONTERMINALS") (codes "Nonterminal") file.nonterminals.items
    ++ (members_text (codes "the productions") (codes "PRODUCTIONS") (codes "Production") file.productions.items
    ++ (literals_text (codes "the text of a terminal") (codes "TERMINAL_TEXTS") file.terminal_literals.items
    ++ literals_text (codes "the name of a nonterminal") (codes "NONTERMINAL_TEXTS") file.nonterminal_literals.items))))))

-- the whole file
abbrev pub file_text : RustFile → List ℕ
file_text file = string_bytes file.heading ++ (HEAD.now ++ (constants_text file
    ++ (codes "/// how many bytes a set has\nconst SET_BYTES: usize = " ++ (decimal file.set_bytes ++ (codes ";\n\n"
    ++ (tables_text file.arrays.items ++ (LOOKUP.now ++ (codes "\n" ++ (INTERFACE.now ++ (codes "\n" ++ DRIVER.now))))))))))
