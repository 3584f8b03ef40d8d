-- The place of the word that a warning is about, and that of a name.
use Rattle.std.specs.Prelude.{ℕ, ◌+◌, Bool, false, List, [], ◌∷◌, length, find, Option, None, Some, codes, if◌then◌else◌}
use Rattle.std.specs.Str.{bytes_eq}
use Rattle.lalrpop_grammar.specs.declared.repr.NonterminalString.{NonterminalString}
use Rattle.lalrpop_grammar.specs.declared.repr.Span.{Span}
use Rattle.grammar_text.specs.Lines.{without_cr}
use Rattle.grammar_diagnostics.specs.declared.warning_places.Place.{Place}
use Rattle.grammar_diagnostics.specs.Pieces.{Piece, words_at}
use Rattle.grammar_diagnostics.specs.Places.{line_at}
use Rattle.grammar_diagnostics.specs.TextErrors.{column_of}
use Rattle.grammar_diagnostics.specs.TextLines.{line_with}
use Rattle.grammar_diagnostics.specs.Warnings.{Doubt, Undefined, Unreachable, Unproductive, Cyclic, NothingToInline, NeverInlined, Repeated, NoStart, StartUsed, doubt_span}

-- whether a word is a name
abbrev pub is_word_of : NonterminalString → Piece → Bool
is_word_of a word = bytes_eq word.bytes a.text

-- the words after the first one
abbrev pub other_words : List Piece → List Piece
other_words [] = []
other_words (word ∷ words) = words

-- the first word, if there is one
abbrev pub first_word : List Piece → Option Piece
first_word [] = None
first_word (word ∷ words) = Some word

-- the words of the right side of a production, which are after its left side and `=`
abbrev pub right_words : List Piece → List Piece
right_words words = other_words (other_words words)

-- whether a word is the sign of a production
abbrev pub is_equals_sign : Option Piece → Bool
is_equals_sign None = false
is_equals_sign (Some word) = bytes_eq word.bytes (codes "=")

-- the words from the name that a line is about: all those of a production, and those after the first
-- one of a mark
abbrev pub named_words : List Piece → List Piece
named_words words = if is_equals_sign (first_word (other_words words)) then words else other_words words

-- the first word that is a name
abbrev pub word_of : NonterminalString → List Piece → Option Piece
word_of a words = find (is_word_of a) words

-- the word of a line that a warning is about, for a start symbol. It may be a nonterminal on the
-- right side of a production. It may be the left side of a production, or the name of a mark. For a
-- repeated production it is the first symbol of the right side
abbrev pub word_about : NonterminalString → Doubt → List Piece → Option Piece
word_about start (Undefined a p) words = word_of a (right_words words)
word_about start (Unreachable a span) words = word_of a (named_words words)
word_about start (Unproductive a span) words = word_of a (named_words words)
word_about start (Cyclic a span) words = word_of a (named_words words)
word_about start (NothingToInline a span) words = word_of a (named_words words)
word_about start (NeverInlined a span) words = word_of a (named_words words)
word_about start (Repeated later first) words = first_word (right_words words)
word_about start NoStart words = None
word_about start (StartUsed p) words = word_of start (right_words words)

-- the place of a word in a line with a number
abbrev pub word_place : ℕ → Piece → Piece → Place
word_place number line word = record {
  line = number;
  column = column_of line.bytes word.start;
  span = record { 0 = line.start + word.start; 1 = line.start + word.start + length word.bytes };
}

-- the place of a word in a line with a number, and that of the beginning of the line with a span if
-- there is no word
abbrev pub place_in_line : ℕ → Span → Piece → Option Piece → Place
place_in_line number span line None = record { line = number; column = 1; span = span }
place_in_line number span line (Some word) = word_place number line word

-- the place of a warning in its line with a number, if there is a line
abbrev pub place_on : NonterminalString → Doubt → ℕ → Option Piece → Place
place_on start w number None = record { line = number; column = 1; span = doubt_span w }
place_on start w number (Some line) = place_in_line number (doubt_span w) line (word_about start w (words_at 0 (without_cr line.bytes)))

-- the place of the word that a warning is about, in a text, with a start symbol. If there is no such
-- word, it is the beginning of its line, and the span of the warning
abbrev pub warning_place : List ℕ → NonterminalString → Doubt → Place
warning_place text start w = place_on start w (line_at text (doubt_span w).0) (line_with (doubt_span w).0 text)

-- the place of a name in the line in which a span begins, as the left side of a production or as the
-- name of a mark. It is that of a warning about the name with the span
abbrev pub name_place : List ℕ → NonterminalString → Span → Place
name_place text a span = warning_place text a (Unproductive a span)
