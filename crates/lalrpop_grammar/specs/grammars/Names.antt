-- The texts that are printed for names, symbols and tokens.
use Rattle.std.specs.Prelude.{ℕ, List, ◌++◌, codes}
use Rattle.std.specs.List.{flat_map}
use Rattle.lalrpop_grammar.specs.declared.repr.NonterminalString.{NonterminalString}
use Rattle.lalrpop_grammar.specs.declared.repr.Production.{Production}
use Rattle.lalrpop_grammar.specs.declared.repr.TerminalString.{TerminalString}
use Rattle.lalrpop_grammar.specs.declared.repr.TerminalString.TheVariants.{Literal, Bare, Error}
use Rattle.lalrpop_grammar.specs.declared.repr.Symbol.{Symbol}
use Rattle.lalrpop_grammar.specs.declared.repr.Symbol.TheVariants.{Nonterminal, Terminal}
use Rattle.lalrpop_grammar.specs.declared.lookahead.token.Token.{Token}
use Rattle.lalrpop_grammar.specs.declared.lookahead.token.Token.TheVariants.{Eof, Error as ErrorToken, Terminal as TerminalToken}

-- a nonterminal prints as its text
abbrev pub nonterminal_text : NonterminalString → List ℕ
nonterminal_text name = name.text

-- a terminal prints as its text, and a literal between double quotes, without escapes
abbrev pub terminal_text : TerminalString → List ℕ
terminal_text (Literal text) = codes "\"" ++ text ++ codes "\""
terminal_text (Bare text) = text
terminal_text Error = codes "error"

-- a symbol prints as its name or its terminal
abbrev pub symbol_text : Symbol → List ℕ
symbol_text (Nonterminal name) = nonterminal_text name
symbol_text (Terminal t) = terminal_text t

-- the symbols of a right side, each after a space
abbrev pub symbols_text : List Symbol → List ℕ
symbols_text symbols = flat_map (λ x. codes " " ++ symbol_text x) symbols

-- a production prints as its nonterminal, an arrow, and its symbols, each after a space
abbrev pub production_text : Production → List ℕ
production_text p = nonterminal_text p.nonterminal ++ (codes " ->" ++ symbols_text p.symbols)

-- a token prints as its terminal, or says what it is
abbrev pub token_text : Token → List ℕ
token_text Eof = codes "Eof"
token_text ErrorToken = codes "Error"
token_text (TerminalToken t) = terminal_text t
