-- The orders that terminals, symbols, tokens and productions derive from their declarations.
use Rattle.std.specs.Prelude.{◌≡◌, List, ℕ}
use Rattle.std.specs.declared.cmp.Ordering.{Ordering}
use Rattle.std.specs.declared.cmp.Ordering.TheVariants.{Less, Equal}
use Rattle.std.specs.Ordering.{nat_cmp, ordering_then}
use Rattle.std.specs.Cmp.Lexicographic.{slice_cmp}
use Rattle.lalrpop_grammar.specs.contracts.repr.ProductionOrd.TheImpl as production
use Rattle.lalrpop_grammar.specs.contracts.repr.SymbolOrd.TheImpl as symbol
use Rattle.lalrpop_grammar.specs.contracts.repr.TerminalStringOrd.TheImpl as terminal
use Rattle.lalrpop_grammar.specs.contracts.lookahead.token.TokenOrd.TheImpl as token
use Rattle.lalrpop_grammar.specs.declared.lookahead.token.Token.TheVariants.{Eof, Error, Terminal}
use Rattle.lalrpop_grammar.specs.declared.repr.NonterminalString.{NonterminalString}
use Rattle.lalrpop_grammar.specs.declared.repr.Production.{Production}
use Rattle.lalrpop_grammar.specs.declared.repr.Symbol.TheVariants.{Nonterminal, Terminal as OfTerminal}
use Rattle.lalrpop_grammar.specs.declared.repr.TerminalString.{TerminalString}
use Rattle.lalrpop_grammar.specs.declared.repr.TerminalString.TheVariants.{Literal, Bare, Error as ErrorTerminal}
use Rattle.lalrpop_grammar.specs.grammars.WellFormed.{name_cmp}

-- the order of texts is that of their bytes
abbrev pub text_cmp : List ℕ → List ℕ → Ordering
text_cmp = slice_cmp nat_cmp

-- literals come first, then bare terminals, then the error terminal; within a kind texts decide
pub record TerminalsCompare : Type 0 where
  pub literals : (a b : List ℕ) → terminal.ghosts.cmp (Literal a) (Literal b) ≡ text_cmp a b
  pub bares : (a b : List ℕ) → terminal.ghosts.cmp (Bare a) (Bare b) ≡ text_cmp a b
  pub errors : terminal.ghosts.cmp ErrorTerminal ErrorTerminal ≡ Equal
  pub literal_bare : (a b : List ℕ) → terminal.ghosts.cmp (Literal a) (Bare b) ≡ Less
  pub literal_error : (a : List ℕ) → terminal.ghosts.cmp (Literal a) ErrorTerminal ≡ Less
  pub bare_error : (a : List ℕ) → terminal.ghosts.cmp (Bare a) ErrorTerminal ≡ Less

-- nonterminals come before terminals; within a kind the names decide
pub record SymbolsCompare : Type 0 where
  pub nonterminals : (a b : NonterminalString) → symbol.ghosts.cmp (Nonterminal a) (Nonterminal b) ≡ name_cmp a b
  pub terminals : (a b : TerminalString) → symbol.ghosts.cmp (OfTerminal a) (OfTerminal b) ≡ terminal.ghosts.cmp a b
  pub across : (a : NonterminalString) (b : TerminalString) → symbol.ghosts.cmp (Nonterminal a) (OfTerminal b) ≡ Less

-- the end of the input comes first, then the error token, then terminals in their order
pub record TokensCompare : Type 0 where
  pub ends : token.ghosts.cmp Eof Eof ≡ Equal
  pub errors : token.ghosts.cmp Error Error ≡ Equal
  pub terminals : (a b : TerminalString) → token.ghosts.cmp (Terminal a) (Terminal b) ≡ terminal.ghosts.cmp a b
  pub end_error : token.ghosts.cmp Eof Error ≡ Less
  pub end_terminal : (a : TerminalString) → token.ghosts.cmp Eof (Terminal a) ≡ Less
  pub error_terminal : (a : TerminalString) → token.ghosts.cmp Error (Terminal a) ≡ Less

-- productions are compared by nonterminal, then by right side, then by action, then by span
abbrev pub ProductionsCompare : Type 0
ProductionsCompare = (p q : Production) → production.ghosts.cmp p q ≡ ordering_then (name_cmp p.nonterminal q.nonterminal) (ordering_then (slice_cmp symbol.ghosts.cmp p.symbols q.symbols) (ordering_then (nat_cmp p.action.0 q.action.0) (ordering_then (nat_cmp p.span.0 q.span.0) (nat_cmp p.span.1 q.span.1))))
