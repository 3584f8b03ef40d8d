-- The parts of a file for Rust that come from a grammar.
use Rattle.std.specs.Prelude.{◌≡◌, ℕ, List, [], ◌∷◌, ◌++◌, codes, map, string_bytes}
use Rattle.std.specs.List.{zip}
use Rattle.file_parts.specs.declared.parts.Array.{Array}
use Rattle.parser_in_rust.specs.Literals.{quoted}
use Rattle.parser_in_rust.specs.declared.file.RustFile.{RustFile}
use Rattle.symbol_texts.specs.Comments.{nonterminal_comments, production_comments, terminal_comments}
use Rattle.symbol_texts.specs.Constants.{constant_texts}
use Rattle.symbol_texts.specs.Names.{nonterminal_names, production_names, terminal_names}
use Rattle.symbol_texts.specs.Texts.{texts_of}
use Rattle.symbol_texts.specs.declared.grammar.GrammarTexts.{GrammarTexts}
use Rattle.symbol_texts.specs.declared.style.Style.TheVariants.{Camel}

-- a file has the constants and the literals of a grammar, a comment at its top, and arrays
pub record IsFileOf (file : RustFile) (grammar : GrammarTexts) (top : List ℕ) (list : List Array) (count : ℕ) : Type 0 where
  pub heading : string_bytes file.heading ≡ top
  pub terminals : constant_texts file.terminals.items ≡ zip (terminal_names Camel (texts_of grammar.terminals.items)) (terminal_comments (codes "`") (texts_of grammar.terminals.items))
  pub nonterminals : constant_texts file.nonterminals.items ≡ zip (nonterminal_names Camel (texts_of grammar.nonterminals.items)) (nonterminal_comments (codes "`") (texts_of grammar.nonterminals.items))
  pub productions : constant_texts file.productions.items ≡ zip (production_names Camel grammar.productions.items) (production_comments (codes "`") grammar.productions.items)
  pub terminal_literals : texts_of file.terminal_literals.items ≡ map quoted (texts_of grammar.terminals.items) ++ quoted (codes "end of input") ∷ []
  pub nonterminal_literals : texts_of file.nonterminal_literals.items ≡ map quoted (texts_of grammar.nonterminals.items)
  pub arrays : file.arrays.items ≡ list
  pub set_bytes : file.set_bytes ≡ count
