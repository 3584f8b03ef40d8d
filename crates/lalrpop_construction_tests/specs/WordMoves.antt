-- What words say of FIRST: the tokens whose bits are below 64.
use Rattle.std.specs.Prelude.{◌≡◌, ◌<◌, ◌↔◌, ℕ, true, List, slice_get, Some}
use Rattle.lalrpop_base.specs.Words.{Bits, has, IsFirst, Rules}
use Rattle.lalrpop_grammar.specs.declared.lookahead.token.Token.{Token}
use Rattle.lalrpop_grammar.specs.declared.lookahead.token.Token.TheVariants.{Eof, Error, Terminal as TokenOf}
use Rattle.lalrpop_grammar.specs.declared.repr.Symbol.{Symbol}
use Rattle.lalrpop_grammar.specs.declared.repr.TerminalString.{TerminalString}
use Rattle.lalrpop_construction_tests.specs.declared.word_lookahead.Word.{Word}
use Rattle.lalrpop_construction_tests.specs.Words.{bits_of_word}

-- the place of a terminal is below 64
abbrev pub IsLow : List TerminalString → TerminalString → Type 0
IsLow terminals t = (bit : ℕ) × (slice_get terminals bit ≡ Some t) × (bit < 64)

-- a token is a terminal in FIRST of the symbols, and its place is below 64
abbrev pub BeginsLow : Rules → List Symbol → Token → Type 0
BeginsLow g l Eof = ⊥
BeginsLow g l Error = ⊥
BeginsLow g l (TokenOf t) = IsFirst g.productions l t × IsLow g.terminals t

-- a word holds exactly the bits of a set that are below the number and below 64
abbrev pub IsWordOf : Bits → ℕ → Word → Type 0
IsWordOf set count word = (bit : ℕ) → (has (bits_of_word word.bits) bit ≡ true) ↔ ((bit < count) × (bit < 64) × (has set bit ≡ true))
