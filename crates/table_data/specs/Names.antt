-- Names, symbols and tokens as JSON.
use Rattle.std.specs.Prelude.{ℕ, List, ◌++◌, codes, map}
use Rattle.json.specs.Print.{quoted}
use Rattle.lalrpop_base.specs.Words.{Bits, rising, token_of}
use Rattle.lalrpop_grammar.specs.declared.repr.NonterminalString.{NonterminalString}
use Rattle.lalrpop_grammar.specs.declared.repr.TerminalString.{TerminalString}
use Rattle.lalrpop_grammar.specs.declared.repr.TerminalString.TheVariants.{Literal, Bare, Error}
use Rattle.lalrpop_grammar.specs.declared.repr.Symbol.{Symbol}
use Rattle.lalrpop_grammar.specs.declared.repr.Symbol.TheVariants.{Nonterminal, Terminal}
use Rattle.lalrpop_grammar.specs.declared.lookahead.token.Token.{Token}
use Rattle.lalrpop_grammar.specs.declared.lookahead.token.Token.TheVariants.{Eof, Error as ErrorToken, Terminal as TerminalToken}
use Rattle.table_data.specs.Json.{array}

-- a nonterminal is its name in quotes
abbrev pub name_json : NonterminalString → List ℕ
name_json name = quoted name.text

-- a terminal is its text in the quotes of JSON, without those of a grammar text
abbrev pub terminal_json : TerminalString → List ℕ
terminal_json (Literal text) = quoted text
terminal_json (Bare text) = quoted text
terminal_json Error = quoted (codes "error")

-- an object with one member, whose key says what kind of symbol it is
abbrev pub of_kind : List ℕ → List ℕ → List ℕ
of_kind kind symbol = codes "{\"" ++ (kind ++ (codes "\":" ++ (symbol ++ codes "}")))

-- a symbol, by its kind
abbrev pub symbol_json : Symbol → List ℕ
symbol_json (Nonterminal name) = of_kind (codes "nonterminal") (name_json name)
symbol_json (Terminal t) = of_kind (codes "terminal") (terminal_json t)

-- a token: the text of a terminal, null for the end of the input, or false for the token of an
-- error, which no grammar text has
abbrev pub token_json : Token → List ℕ
token_json Eof = codes "null"
token_json ErrorToken = codes "false"
token_json (TerminalToken t) = terminal_json t

-- the tokens of a set, by ascending bit
abbrev pub tokens_json : List TerminalString → Bits → List ℕ
tokens_json terminals set = array (codes ",") token_json (map (token_of terminals) (rising set))
