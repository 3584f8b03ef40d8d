-- What a grammar text says, line by line. A text is a list of bytes.
use Rattle.std.specs.Prelude.{◌==◌, ℕ, ◌+◌, Bool, true, false, ◌&&◌, not, List, [], ◌∷◌, length, filter, Option, None, Some, codes, if◌then◌else◌}
use Rattle.std.specs.List.{slice_split, flat_map}
use Rattle.std.specs.Str.{bytes_eq}
use Rattle.lalrpop_grammar.specs.declared.repr.NonterminalString.{NonterminalString}
use Rattle.lalrpop_grammar.specs.declared.repr.Symbol.{Symbol}
use Rattle.grammar_text.specs.declared.lines.Line.{Line}
use Rattle.grammar_text.specs.declared.lines.Line.TheVariants.{Blank, Production, Inline, Fault}
use Rattle.grammar_text.specs.declared.lines.PlacedLine.{PlacedLine}
use Rattle.grammar_text.specs.Symbols.{name_of, is_name, symbols_of}

-- a production, if the words of the right side have symbols, and else a fault
abbrev pub production_or_fault : NonterminalString → Option (List Symbol) → Line
production_or_fault a None = Fault
production_or_fault a (Some symbols) = Production a symbols

-- whether a list is empty
abbrev pub is_empty : {A : Type 0} → List A → Bool
is_empty [] = true
is_empty (x ∷ xs) = false

-- what two words say that have no `=` between a name and symbols, with the words after them: a mark
-- if they are `inline` and a name alone, and else a fault
abbrev pub marked_line : List ℕ → List ℕ → List (List ℕ) → Line
marked_line w v ws = if is_empty ws && (bytes_eq w (codes "inline") && is_name v) then Inline (name_of v) else Fault

-- what a line of these words says: nothing if there are no words; a production if they are a name,
-- `=` and words of symbols; a mark if they are `inline` and a name; and else a fault
abbrev pub line_of_words : List (List ℕ) → Line
line_of_words [] = Blank
line_of_words (w ∷ []) = Fault
line_of_words (w ∷ v ∷ ws) = if bytes_eq v (codes "=") && is_name w then production_or_fault (name_of w) (symbols_of ws) else marked_line w v ws

-- the words of a line are the parts between spaces and tabs that are not empty
abbrev pub words_of : List ℕ → List (List ℕ)
words_of line = filter (λ w. not (is_empty w)) (flat_map (λ piece. slice_split (λ b. b == 9) piece) (slice_split (λ b. b == 32) line))

-- the line without a CR at its end, since that CR belongs to the line end
abbrev pub without_cr : List ℕ → List ℕ
without_cr [] = []
without_cr (b ∷ []) = if b == 13 then [] else b ∷ []
without_cr (b ∷ c ∷ bs) = b ∷ without_cr (c ∷ bs)

-- a line that begins at an offset: what it says, and its span, which has the offsets of its first
-- byte and of the byte after its last without a CR
abbrev pub placed_of : ℕ → List ℕ → PlacedLine
placed_of at line = record { line = line_of_words (words_of (without_cr line)); span = record { 0 = at; 1 = at + length (without_cr line) } }

-- lines of which the first begins at an offset, and each next one after the LF of the one before
abbrev pub placed_from : ℕ → List (List ℕ) → List PlacedLine
placed_from at [] = []
placed_from at (l ∷ ls) = placed_of at l ∷ placed_from (at + (length l + 1)) ls

-- the lines of a text, which LF separates
abbrev pub lines_of : List ℕ → List PlacedLine
lines_of text = placed_from 0 (slice_split (λ b. b == 10) text)

-- whether what a line says is a fault
abbrev pub is_fault_line : Line → Bool
is_fault_line Blank = false
is_fault_line (Production a symbols) = false
is_fault_line (Inline a) = false
is_fault_line Fault = true

-- whether a line is no grammar line
abbrev pub is_fault : PlacedLine → Bool
is_fault l = is_fault_line l.line
