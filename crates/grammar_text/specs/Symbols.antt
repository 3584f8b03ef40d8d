-- Names, literals and symbols of a grammar text. A word is a list of bytes.
use Rattle.std.specs.Prelude.{◌==◌, ℕ, ◌+◌, nat_lt, nat_le, Bool, false, ◌&&◌, ◌||◌, List, [], ◌∷◌, length, Option, None, Some, if◌then◌else◌, option_map}
use Rattle.std.specs.List.{list_all, position_or_len, before_first}
use Rattle.lalrpop_grammar.specs.declared.repr.NonterminalString.{NonterminalString}
use Rattle.lalrpop_grammar.specs.declared.repr.Symbol.{Symbol}
use Rattle.lalrpop_grammar.specs.declared.repr.Symbol.TheVariants.{Nonterminal, Terminal}
use Rattle.lalrpop_grammar.specs.declared.repr.TerminalString.TheVariants.{Literal}

-- whether a byte is an ASCII letter or `_`, with which a name begins
abbrev pub starts_name : ℕ → Bool
starts_name b = (nat_le 65 b && nat_le b 90) || ((nat_le 97 b && nat_le b 122) || (b == 95))

-- whether a byte is an ASCII letter, an ASCII digit or `_`, with which a name goes on
abbrev pub continues_name : ℕ → Bool
continues_name b = starts_name b || (nat_le 48 b && nat_le b 57)

-- whether a word is a name: its first byte is an ASCII letter or `_`, and the others are these or
-- ASCII digits
abbrev pub is_name : List ℕ → Bool
is_name [] = false
is_name (b ∷ bs) = starts_name b && list_all continues_name bs

-- the nonterminal that a word names
abbrev pub name_of : List ℕ → NonterminalString
name_of word = record { text = word }

-- the terminal that is the literal with a text
abbrev pub literal : List ℕ → Symbol
literal text = Terminal (Literal text)

-- whether a byte is a double quote
abbrev pub is_quote : ℕ → Bool
is_quote b = b == 34

-- the bytes before the first quote, if there are such and the quote is the last byte
abbrev pub up_to_quote : List ℕ → Option (List ℕ)
up_to_quote bs = if nat_lt 0 (position_or_len is_quote bs) && (position_or_len is_quote bs + 1 == length bs) then Some (before_first is_quote bs) else None

-- the text between two quotes, if a word is a literal
abbrev pub quoted : List ℕ → Option (List ℕ)
quoted [] = None
quoted (b ∷ bs) = if is_quote b then up_to_quote bs else None

-- the symbol of a word: a nonterminal if it is a name, or a literal if it is one
abbrev pub symbol_of : List ℕ → Option Symbol
symbol_of word = if is_name word then Some (Nonterminal (name_of word)) else option_map literal (quoted word)

-- a symbol before symbols, if both are there
abbrev pub prepend : Option Symbol → Option (List Symbol) → Option (List Symbol)
prepend None symbols = None
prepend (Some x) None = None
prepend (Some x) (Some xs) = Some (x ∷ xs)

-- the symbols of words, if each word has one
abbrev pub symbols_of : List (List ℕ) → Option (List Symbol)
symbols_of [] = Some []
symbols_of (w ∷ ws) = prepend (symbol_of w) (symbols_of ws)
