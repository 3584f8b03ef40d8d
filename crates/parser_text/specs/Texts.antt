-- The symbols and the productions of a parse table, as texts.
use Rattle.std.specs.Prelude.{◌≡◌, ℕ, Bool, true, false, List, codes, map, string_bytes}
use Rattle.lalrpop_grammar.specs.declared.repr.NonterminalString.{NonterminalString}
use Rattle.lalrpop_grammar.specs.declared.repr.Production.{Production}
use Rattle.lalrpop_grammar.specs.declared.repr.Symbol.{Symbol}
use Rattle.lalrpop_grammar.specs.declared.repr.Symbol.TheVariants.{Nonterminal, Terminal}
use Rattle.lalrpop_grammar.specs.declared.repr.TerminalString.{TerminalString}
use Rattle.lalrpop_grammar.specs.declared.repr.TerminalString.TheVariants.{Literal, Bare, Error}
use Rattle.parse_tables.specs.declared.table.ParseTable.{ParseTable}
use Rattle.symbol_texts.specs.Texts.{texts_of}
use Rattle.symbol_texts.specs.declared.grammar.GrammarTexts.{GrammarTexts}
use Rattle.symbol_texts.specs.declared.grammar.ProductionText.{ProductionText}
use Rattle.symbol_texts.specs.declared.grammar.SymbolText.{SymbolText}

-- the text of a terminal, without quotes
abbrev pub terminal_word : TerminalString → List ℕ
terminal_word (Literal text) = text
terminal_word (Bare text) = text
terminal_word Error = codes "error"

-- the name of a nonterminal
abbrev pub name_word : NonterminalString → List ℕ
name_word name = name.text

-- a symbol: whether it is a terminal, and its text
abbrev pub symbol_words : Symbol → Bool × List ℕ
symbol_words (Nonterminal name) = (false, name.text)
symbol_words (Terminal t) = (true, terminal_word t)

abbrev pub symbol_parts : SymbolText → Bool × List ℕ
symbol_parts s = (s.is_terminal, string_bytes s.text)

-- a production: its nonterminal, and its symbols
abbrev pub production_words : Production → List ℕ × List (Bool × List ℕ)
production_words p = (p.nonterminal.text, map symbol_words p.symbols)

abbrev pub production_parts : ProductionText → List ℕ × List (Bool × List ℕ)
production_parts p = (string_bytes p.left, map symbol_parts p.right.items)

-- texts are those of the symbols and of the productions of a table, by number
pub record IsGrammarOf (grammar : GrammarTexts) (t : ParseTable) : Type 0 where
  pub terminals : texts_of grammar.terminals.items ≡ map terminal_word t.terminals
  pub nonterminals : texts_of grammar.nonterminals.items ≡ map name_word t.nonterminals
  pub productions : map production_parts grammar.productions.items ≡ map production_words t.productions
