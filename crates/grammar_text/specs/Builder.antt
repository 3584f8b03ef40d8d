-- What a builder of a grammar takes and refuses.
use Rattle.std.specs.Prelude.{◌≡◌, ◌+◌, ◌<◌, ◌^◌, ℕ, Bool, true, false, not, List, length, map, position, slice_get, is_none, Some}
use Rattle.grammar_text.specs.declared.lines.Line.{Line}
use Rattle.grammar_text.specs.declared.lines.PlacedLine.{PlacedLine}
use Rattle.grammar_text.specs.declared.builder_error.BuilderError.{BuilderError}
use Rattle.grammar_text.specs.declared.builder_error.BuilderError.TheVariants.{Name, Word, TooManyActions, Memory}
use Rattle.grammar_text.specs.declared.builder.SymbolText.{SymbolText}
use Rattle.grammar_text.specs.declared.builder.SymbolText.TheVariants.{Nonterminal, Literal}
use Rattle.lalrpop_grammar.specs.declared.repr.Symbol.{Symbol}
use Rattle.lalrpop_grammar.specs.declared.repr.Symbol.TheVariants.{Nonterminal as NonterminalOf}
use Rattle.grammar_text.specs.Symbols.{is_name, literal, name_of, symbol_of}
use Rattle.grammar_text.specs.Grammar.{productions_in}

-- a line that is in no text has the empty span at offset 0
abbrev pub unplaced : Line → PlacedLine
unplaced line = record { line = line; span = record { 0 = 0; 1 = 0 } }

-- whether a word has no symbol, since it is neither a name nor a literal
abbrev pub is_no_symbol : List ℕ → Bool
is_no_symbol word = is_none (symbol_of word)

-- an error says why a production is refused: its name is not a name; or its name is one, and the word
-- that the error has is the first faulty one, counted from 1; or an allocation failed
module _ {W : Type 0} (is_faulty : W → Bool) (text_of : W → List ℕ) where
  abbrev pub IsRefusedFor : List ℕ → List W → BuilderError → Type 0
  IsRefusedFor name words (Name text) = (text ≡ name) × (is_name name ≡ false)
  IsRefusedFor name words (Word nonterminal number word) = (nonterminal ≡ name_of name) × (is_name name ≡ true) × (place : ℕ) × (number ≡ place + 1) × (position is_faulty words ≡ Some place) × (slice_get (map text_of words) place ≡ Some word)
  IsRefusedFor name words TooManyActions = ⊥
  IsRefusedFor name words Memory = Unit {0}

-- the error has a word of a production of the name, and its number, or an allocation failed
abbrev pub IsAtWord : List ℕ → ℕ → List ℕ → BuilderError → Type 0
IsAtWord name number word (Name text) = ⊥
IsAtWord name number word (Word nonterminal at there) = (nonterminal ≡ name_of name) × (at ≡ number) × (there ≡ word)
IsAtWord name number word TooManyActions = ⊥
IsAtWord name number word Memory = Unit {0}

-- a production of a name and words, or a mark of a name, is refused
abbrev pub IsRefused : List ℕ → List (List ℕ) → BuilderError → Type 0
IsRefused = IsRefusedFor is_no_symbol (λ word. word)

-- ---- symbols by kind and text
-- the text of a symbol
abbrev pub text_of : SymbolText → List ℕ
text_of (Nonterminal text) = text.now
text_of (Literal text) = text.now

-- the symbol
abbrev pub symbol_by : SymbolText → Symbol
symbol_by (Nonterminal text) = NonterminalOf (name_of text.now)
symbol_by (Literal text) = literal text.now

-- whether a symbol is a nonterminal whose text is not a name
abbrev pub is_no_name : SymbolText → Bool
is_no_name (Nonterminal text) = not (is_name text.now)
is_no_name (Literal text) = false

-- a production of a name and symbols is refused
abbrev pub IsRefusedOf : List ℕ → List SymbolText → BuilderError → Type 0
IsRefusedOf = IsRefusedFor is_no_name text_of

-- an error says why lines give no grammar: there are more productions than numbers of actions, or
-- an allocation failed
abbrev pub IsTooLarge : List PlacedLine → BuilderError → Type 0
IsTooLarge lines (Name text) = ⊥
IsTooLarge lines (Word nonterminal number word) = ⊥
IsTooLarge lines TooManyActions = 2 ^ 32 < length (productions_in lines)
IsTooLarge lines Memory = Unit {0}
