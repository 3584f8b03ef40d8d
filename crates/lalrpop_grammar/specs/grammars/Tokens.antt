-- Tokens and their bits.
use Rattle.std.specs.Prelude.{◌≡◌, ℕ, ◌+◌, ◌≤◌, ◌==◌, List, length, slice_get, cond, Option, Some, None, Contains, IsTrue}
use Rattle.lalrpop_collections.specs.lists.Bits.{Bits, has}
use Rattle.lalrpop_grammar.specs.declared.repr.TerminalString.{TerminalString}
use Rattle.lalrpop_grammar.specs.declared.lookahead.token.Token.{Token}
use Rattle.lalrpop_grammar.specs.declared.lookahead.token.Token.TheVariants.{Eof, Error, Terminal}
use Rattle.lalrpop_grammar.specs.declared.lookahead.token.TokenRef.{TokenRef}
use Rattle.lalrpop_grammar.specs.declared.lookahead.token.TokenRef.TheVariants.{Eof as EofRef, Error as ErrorRef, Terminal as TerminalRef}

-- the token is a terminal
abbrev pub IsTerminal : Token → Type 0
IsTerminal Eof = ⊥
IsTerminal Error = ⊥
IsTerminal (Terminal t) = Unit {0}

-- the token that equals a token with a borrowed terminal
abbrev pub seen : TokenRef → Token
seen EofRef = Eof
seen ErrorRef = Error
seen (TerminalRef t) = Terminal t.now

-- the terminal if there is one, and the token otherwise
abbrev token_past : Option TerminalString → Token → Token
token_past None token = token
token_past (Some t) token = Terminal t

-- the token with the bit: a terminal by its place, then Eof, then Error
abbrev pub token_of : List TerminalString → ℕ → Token
token_of terminals bit = token_past (slice_get terminals bit) (cond (bit == length terminals) Eof Error)

-- the bit of the token
abbrev pub IsBitOf : List TerminalString → Token → ℕ → Type 0
IsBitOf terminals Eof bit = bit ≡ length terminals
IsBitOf terminals Error bit = bit ≡ length terminals + 1
IsBitOf terminals (Terminal t) bit = slice_get terminals bit ≡ Some t

-- the set has the token
abbrev pub HasToken : List TerminalString → Bits → Token → Type 0
HasToken terminals set token = (bit : ℕ) × IsBitOf terminals token bit × IsTrue (has set bit)

-- the token is known: if it is a terminal, the list has it
abbrev pub IsKnown : List TerminalString → Token → Type 0
IsKnown terminals Eof = Unit {0}
IsKnown terminals Error = Unit {0}
IsKnown terminals (Terminal t) = Contains terminals t

-- each bit is that of a token
abbrev pub FitsTokens : List TerminalString → Bits → Type 0
FitsTokens terminals set = (bit : ℕ) → IsTrue (has set bit) → bit ≤ length terminals + 1
