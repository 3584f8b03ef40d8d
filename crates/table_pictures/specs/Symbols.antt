-- Symbols, productions and tokens as XML.
use Rattle.std.specs.Prelude.{ℕ, ◌-◌, nat_lt, List, [], ◌++◌, codes, length, map, take, if◌then◌else◌}
use Rattle.std.specs.Fmt.{decimal}
use Rattle.std.specs.List.{flat_map}
use Rattle.lalrpop_base.specs.Words.{Bits, rising, nonterminal_text, terminal_text, symbol_text, token_of}
use Rattle.lalrpop_grammar.specs.declared.repr.Production.{Production}
use Rattle.lalrpop_grammar.specs.declared.repr.Symbol.{Symbol}
use Rattle.lalrpop_grammar.specs.declared.repr.TerminalString.{TerminalString}
use Rattle.lalrpop_grammar.specs.declared.lookahead.token.Token.{Token}
use Rattle.lalrpop_grammar.specs.declared.lookahead.token.Token.TheVariants.{Eof, Error as ErrorToken, Terminal as TerminalToken}
use Rattle.table_pictures.specs.Escape.{xml_text}

-- a symbol after a space
abbrev pub symbol_xml : Symbol → List ℕ
symbol_xml symbol = xml_text (codes " " ++ symbol_text symbol)

-- symbols, each after a space
abbrev pub symbols_xml : List Symbol → List ℕ
symbols_xml symbols = flat_map symbol_xml symbols

-- a production: its nonterminal, an arrow and its symbols
abbrev pub production_xml : Production → List ℕ
production_xml p = xml_text (nonterminal_text p.nonterminal) ++ (codes " -&gt;" ++ symbols_xml p.symbols)

-- a terminal after a space
abbrev pub terminal_xml : TerminalString → List ℕ
terminal_xml t = xml_text (codes " " ++ terminal_text t)

-- a token after a space
abbrev pub token_xml : Token → List ℕ
token_xml Eof = codes " Eof"
token_xml ErrorToken = codes " Error"
token_xml (TerminalToken t) = terminal_xml t

-- the greatest number of tokens that are shown of a set
abbrev pub most_tokens : ℕ
most_tokens = 8

-- the number of tokens that are not shown, if there are such
abbrev pub more_tokens : ℕ → List ℕ
more_tokens count = if nat_lt most_tokens count then codes " <I>and " ++ (decimal (count - most_tokens) ++ codes " more</I>") else []

-- the first tokens of a set by ascending bit, and the number of the others
abbrev pub tokens_xml : List TerminalString → Bits → List ℕ
tokens_xml terminals set = flat_map token_xml (take most_tokens (map (token_of terminals) (rising set))) ++ more_tokens (length (rising set))
