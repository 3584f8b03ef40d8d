-- Where the words that warnings are about lie.
use Rattle.std.proofs.Common.{◌≡◌, ◌==◌, ◌+◌, ℕ, Bool, true, false, List, [], ◌∷◌, length, Option, None, Some, cond, sym, ap, ap₂, subst, ◌∙◌, arith}
use Rattle.std.specs.Prelude.{find}
use Rattle.lalrpop_grammar.specs.declared.repr.NonterminalString.{NonterminalString}
use Rattle.lalrpop_grammar.specs.declared.repr.Span.{Span}
use Rattle.grammar_text.specs.Lines.{without_cr}
use Rattle.grammar_diagnostics.specs.declared.warning_places.Place.{Place}
use Rattle.grammar_diagnostics.specs.Places.{line_at}
use Rattle.grammar_diagnostics.specs.Pieces.{Piece, words_at}
use Rattle.grammar_diagnostics.specs.Warnings.{Doubt, Undefined, Unreachable, Unproductive, Cyclic, NothingToInline, NeverInlined, Repeated, NoStart, StartUsed, doubt_span}
use Rattle.grammar_diagnostics.specs.TextLines.{ends_after, line_with, text_lines}
use Rattle.grammar_diagnostics.specs.WarningPlaces.{first_word, is_equals_sign, is_word_of, named_words, other_words, place_on, right_words, warning_place, word_about, word_of}
use Rattle.grammar_diagnostics.proofs.Within.{AreWithin, IsWithin, text_within, words_within}

-- a piece, if there is one, lies between two offsets
abbrev pub PieceWithin : ℕ → ℕ → Option Piece → Type 0
PieceWithin low high None = Unit {0}
PieceWithin low high (Some p) = IsWithin low high p

find_step : (t : Bool) (low high : ℕ) (p : Piece) (o : Option Piece) → IsWithin low high p → PieceWithin low high o → PieceWithin low high (cond t (Some p) o)
find_step true low high p o h k = h
find_step false low high p o h k = k

find_within : (low high : ℕ) (q : Piece → Bool) (ps : List Piece) → AreWithin low high ps → PieceWithin low high (find q ps)
find_within low high q [] h = tt
find_within low high q (p ∷ ps) h = find_step (q p) low high p (find q ps) h.0 (find_within low high q ps h.1)

others_within : (low high : ℕ) (ps : List Piece) → AreWithin low high ps → AreWithin low high (other_words ps)
others_within low high [] h = tt
others_within low high (p ∷ ps) h = h.1

first_within : (low high : ℕ) (ps : List Piece) → AreWithin low high ps → PieceWithin low high (first_word ps)
first_within low high [] h = tt
first_within low high (p ∷ ps) h = h.0

right_within : (low high : ℕ) (ps : List Piece) → AreWithin low high ps → AreWithin low high (right_words ps)
right_within low high ps h = others_within low high (other_words ps) (others_within low high ps h)

either_within : (t : Bool) (low high : ℕ) (ps qs : List Piece) → AreWithin low high ps → AreWithin low high qs → AreWithin low high (cond t ps qs)
either_within true low high ps qs h k = h
either_within false low high ps qs h k = k

named_within : (low high : ℕ) (ps : List Piece) → AreWithin low high ps → AreWithin low high (named_words ps)
named_within low high ps h = either_within (is_equals_sign (first_word (other_words ps))) low high ps (other_words ps) h (others_within low high ps h)

word_within : (low high : ℕ) (a : NonterminalString) (ps : List Piece) → AreWithin low high ps → PieceWithin low high (word_of a ps)
word_within low high a ps h = find_within low high (is_word_of a) ps h

-- the word that a warning is about lies where all words of its line lie
about_within : (low high : ℕ) (start : NonterminalString) (w : Doubt) (ps : List Piece) → AreWithin low high ps → PieceWithin low high (word_about start w ps)
about_within low high start (Undefined a p) ps h = word_within low high a (right_words ps) (right_within low high ps h)
about_within low high start (Unreachable a span) ps h = word_within low high a (named_words ps) (named_within low high ps h)
about_within low high start (Unproductive a span) ps h = word_within low high a (named_words ps) (named_within low high ps h)
about_within low high start (Cyclic a span) ps h = word_within low high a (named_words ps) (named_within low high ps h)
about_within low high start (NothingToInline a span) ps h = word_within low high a (named_words ps) (named_within low high ps h)
about_within low high start (NeverInlined a span) ps h = word_within low high a (named_words ps) (named_within low high ps h)
about_within low high start (Repeated later first) ps h = first_within low high (right_words ps) (right_within low high ps h)
about_within low high start NoStart ps h = tt
about_within low high start (StartUsed p) ps h = word_within low high start (right_words ps) (right_within low high ps h)

-- the word of a line that a warning is about, if this is it, lies within the line
pub about_fits : (start : NonterminalString) (w : Doubt) (line : List ℕ) (o : Option Piece) → o ≡ word_about start w (words_at 0 (without_cr line)) → PieceWithin 0 (length (without_cr line)) o
about_fits start w line o same =
    let zero_add : 0 + length (without_cr line) ≡ length (without_cr line) = omega arith in
    let words = words_at 0 (without_cr line) in
    let all : AreWithin 0 (length (without_cr line)) words = subst (λ high. AreWithin 0 high words) zero_add (words_within 0 (without_cr line)) in
    subst (PieceWithin 0 (length (without_cr line))) (sym same) (about_within 0 (length (without_cr line)) start w words all)

-- the line of a text in which an offset is, if this is it, lies within the text
pub line_fits : (offset : ℕ) (text : List ℕ) (o : Option Piece) → o ≡ line_with offset text → PieceWithin 0 (0 + length text) o
line_fits offset text o same = subst (PieceWithin 0 (0 + length text)) (sym same) (find_within 0 (0 + length text) (ends_after offset) (text_lines text) (text_within (λ b. b == 10) 0 text))

-- a place in the line in which the span of a warning begins is that of the warning
pub is_warning_place : (start : NonterminalString) (w : Doubt) (text : List ℕ) (span : Span) (number : ℕ) (line : Option Piece) (place : Place) → span ≡ doubt_span w → number ≡ line_at text span.0 → line ≡ line_with span.0 text → place ≡ place_on start w number line → place ≡ warning_place text start w
is_warning_place start w text span number line place same counted found placed =
    placed ∙ ap₂ (place_on start w) (counted ∙ ap (λ (x : Span). line_at text x.0) same) (found ∙ ap (λ (x : Span). line_with x.0 text) same)
