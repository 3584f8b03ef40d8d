-- Where the pieces of a text and the faulty words of its lines lie.
use Rattle.std.proofs.Common.{◌≡◌, ◌==◌, ◌≤◌, ◌<◌, ℕ, zero, suc, ◌+◌, Bool, true, false, List, [], ◌∷◌, ◌++◌, map, length, Option, None, Some, cond, option_map, refl, sym, ap, ◌∙◌, subst, arith}
use Rattle.std.specs.Prelude.{filter, slice_get, slice_index_or}
use Rattle.std.specs.List.{slice_split, onto_first, flat_map}
use Rattle.std.specs.Str.{bytes_eq}
use Rattle.std.specs.Prelude.{codes, ◌&&◌}
use Rattle.grammar_text.specs.declared.lines.PlacedLine.{PlacedLine}
use Rattle.grammar_text.specs.Symbols.{is_name}
use Rattle.grammar_text.specs.Lines.{placed_from, placed_of, without_cr, lines_of}
use Rattle.grammar_diagnostics.specs.declared.pieces.Piece.{Piece as PieceWords}
use Rattle.grammar_diagnostics.specs.Pieces.{Piece, between_tabs, is_word, piece_view, pieces_from, words_at}
use Rattle.grammar_diagnostics.specs.Faults.{Fault, fault_after_mark, fault_of, is_symbol, mark_fault, other_fault, right_fault, word_reason}
use Rattle.grammar_diagnostics.specs.TextErrors.{ArePlacedIn, IsPlacedIn, TextError, error_of, errors_from, errors_of, line_fault, option_list}

-- the number of bytes of parts, each with a byte that separates it from the next
abbrev pub size : List (List ℕ) → ℕ
size [] = 0
size (p ∷ ps) = length p + 1 + size ps

size_at : (ends : Bool) (b n : ℕ) (ps : List (List ℕ)) → size ps ≡ n + 1 → size (cond ends ([] ∷ ps) (onto_first b ps)) ≡ suc n + 1
size_at true b n ps h = omega (arith, h)
size_at false b n [] h = omega (arith, h)
size_at false b n (p ∷ ps) h = omega (arith, h)

-- the parts of a text have one byte more than the text
pub size_of : (by : ℕ → Bool) (text : List ℕ) → size (slice_split by text) ≡ length text + 1
size_of by [] = refl
size_of by (b ∷ bs) = size_at (by b) b (length bs) (slice_split by bs) (size_of by bs)

-- a piece lies between two offsets
pub record IsWithin (low high : ℕ) (p : Piece) : Type 0 where
  pub begins : low ≤ p.start
  pub ends : p.start + length p.bytes ≤ high

-- each piece of a list lies there
abbrev pub AreWithin : ℕ → ℕ → List Piece → Type 0
AreWithin low high [] = Unit {0}
AreWithin low high (p ∷ ps) = IsWithin low high p × AreWithin low high ps

pub pieces_within : (low high at : ℕ) (ps : List (List ℕ)) → low ≤ at → at + size ps ≤ high + 1 → AreWithin low high (pieces_from at ps)
pieces_within low high at [] h k = tt
pieces_within low high at (p ∷ ps) h k = (record { begins = h; ends = omega (arith, k) }, pieces_within low high (at + (length p + 1)) ps (omega (arith, h)) (omega (arith, k)))

append_within : (low high : ℕ) (ps qs : List Piece) → AreWithin low high ps → AreWithin low high qs → AreWithin low high (ps ++ qs)
append_within low high [] qs h k = k
append_within low high (p ∷ ps) qs h k = (h.0, append_within low high ps qs h.1 k)

filter_step : (b : Bool) (low high : ℕ) (p : Piece) (ps : List Piece) → IsWithin low high p → AreWithin low high ps → AreWithin low high (cond b (p ∷ ps) ps)
filter_step true low high p ps h k = (h, k)
filter_step false low high p ps h k = k

filter_within : (low high : ℕ) (ps : List Piece) → AreWithin low high ps → AreWithin low high (filter is_word ps)
filter_within low high [] h = tt
filter_within low high (p ∷ ps) h = filter_step (is_word p) low high p (filter is_word ps) h.0 (filter_within low high ps h.1)

flat_within : (low high : ℕ) (ps : List Piece) → AreWithin low high ps → AreWithin low high (flat_map between_tabs ps)
flat_within low high [] h = tt
flat_within low high (p ∷ ps) h =
    let parts = slice_split (λ b. b == 9) p.bytes in
    let own : AreWithin low high (between_tabs p) = pieces_within low high p.start parts h.0.begins (omega (arith, h.0.ends, size_of (λ b. b == 9) p.bytes)) in
    append_within low high (between_tabs p) (flat_map between_tabs ps) own (flat_within low high ps h.1)

-- the pieces of a text lie within it
pub text_within : (by : ℕ → Bool) (at : ℕ) (text : List ℕ) → AreWithin at (at + length text) (pieces_from at (slice_split by text))
text_within by at text = pieces_within at (at + length text) at (slice_split by text) (omega arith) (omega (arith, size_of by text))

-- the words of a line lie within it
pub words_within : (at : ℕ) (line : List ℕ) → AreWithin at (at + length line) (words_at at line)
words_within at line =
    let parts = pieces_from at (slice_split (λ b. b == 32) line) in
    filter_within at (at + length line) (flat_map between_tabs parts) (flat_within at (at + length line) parts (text_within (λ b. b == 32) at line))

-- a piece that is there lies there
pub within_get : (low high : ℕ) (ps : List Piece) (k : ℕ) (p : Piece) → AreWithin low high ps → slice_get ps k ≡ Some p → IsWithin low high p
within_get low high [] k p h e = cc
within_get low high (q ∷ qs) zero p h e =
    let same : q ≡ p = cc in
    let P : Piece → Type 0 = IsWithin low high in
    subst P same h.0
within_get low high (q ∷ qs) (suc k) p h e = within_get low high qs k p h.1 e

-- the word of a fault, if there is one, lies between two offsets
abbrev pub FaultWithin : ℕ → ℕ → Option Fault → Type 0
FaultWithin low high None = Unit {0}
FaultWithin low high (Some f) = IsWithin low high f.word

either_within : (t : Bool) (low high : ℕ) (f g : Option Fault) → FaultWithin low high f → FaultWithin low high g → FaultWithin low high (cond t f g)
either_within true low high f g h k = h
either_within false low high f g h k = k

right_within : (low high : ℕ) (ws : List Piece) → AreWithin low high ws → FaultWithin low high (right_fault ws)
right_within low high [] h = tt
right_within low high (w ∷ ws) h = either_within (is_symbol w.bytes) low high (right_fault ws) (Some (record { reason = word_reason w.bytes; word = w })) (right_within low high ws h.1) h.0

after_within : (low high : ℕ) (ws : List Piece) → AreWithin low high ws → FaultWithin low high (fault_after_mark ws)
after_within low high [] h = tt
after_within low high (w ∷ ws) h = h.0

other_step : (named mark : Bool) (low high : ℕ) (w v : Piece) (x y z : Fault) → IsWithin low high w → IsWithin low high v → x.word ≡ v → y.word ≡ v → z.word ≡ w → IsWithin low high (cond named (cond mark x y) z).word
other_step true true low high w v x y z h k a b c = let P : Piece → Type 0 = IsWithin low high in subst P (sym a) k
other_step true false low high w v x y z h k a b c = let P : Piece → Type 0 = IsWithin low high in subst P (sym b) k
other_step false mark low high w v x y z h k a b c = let P : Piece → Type 0 = IsWithin low high in subst P (sym c) h

other_within : (low high : ℕ) (w v : Piece) → IsWithin low high w → IsWithin low high v → IsWithin low high (other_fault w v).word
other_within low high w v h k = other_step (is_name w.bytes) (bytes_eq w.bytes (codes "inline")) low high w v _ _ _ h k refl refl refl

-- the faulty word of words that lie there lies there
pub fault_within : (low high : ℕ) (ws : List Piece) → AreWithin low high ws → FaultWithin low high (fault_of ws)
fault_within low high [] h = tt
fault_within low high (w ∷ []) h = h.0
fault_within low high (w ∷ v ∷ ws) h =
    let marks = either_within (bytes_eq w.bytes (codes "inline") && is_name v.bytes) low high (fault_after_mark ws) (Some (other_fault w v)) (after_within low high ws h.1.1) (other_within low high w v h.0 h.1.0) in
    either_within (bytes_eq v.bytes (codes "=") && is_name w.bytes) low high (right_fault ws) (mark_fault w v ws) (right_within low high ws h.1.1) marks

-- the faulty word of a line lies within it
pub line_within : (line : List ℕ) → FaultWithin 0 (length (without_cr line)) (line_fault line)
line_within line =
    let same : 0 + length (without_cr line) ≡ length (without_cr line) = omega arith in
    fault_within 0 (length (without_cr line)) (words_at 0 (without_cr line)) (subst (λ high. AreWithin 0 high (words_at 0 (without_cr line))) same (words_within 0 (without_cr line)))

-- the fault of a line, if this is it, lies within the line
pub fault_fits : (line : List ℕ) (f : Option Fault) → f ≡ line_fault line → FaultWithin 0 (length (without_cr line)) f
fault_fits line f same = subst (FaultWithin 0 (length (without_cr line))) (sym same) (line_within line)

-- the piece at a place of a list, from the type of the code, lies where all do
pub piece_fits : (low high : ℕ) (ps : List PieceWords) (qs : List Piece) (k : ℕ) (d : PieceWords) → map piece_view ps ≡ qs → AreWithin low high qs → k < length ps → IsWithin low high (piece_view (slice_index_or ps k d))
piece_fits low high ps qs k d same within less = within_get low high qs k (piece_view (slice_index_or ps k d)) within (ap (λ (xs : List Piece). slice_get xs k) (sym same) ∙ at_index ps k d less)
  where
    at_index : (ps : List PieceWords) (k : ℕ) (d : PieceWords) → k < length ps → slice_get (map piece_view ps) k ≡ Some (piece_view (slice_index_or ps k d))
    at_index [] k d less = absurd (omega (arith, less))
    at_index (p ∷ ps) zero d less = refl
    at_index (p ∷ ps) (suc k) d less = at_index ps k d (omega (arith, less))

-- ---- errors
-- an error is in one of some lines, of which the first has a number
pub record HasPlace (n : ℕ) (ls : List PlacedLine) (e : TextError) : Type 0 where
  pub place : ℕ
  pub counted : e.line ≡ n + place
  pub line : PlacedLine
  pub there : slice_get ls place ≡ Some line
  pub begins : line.span.0 ≤ e.span.0
  pub ends : e.span.1 ≤ line.span.1

later : (n : ℕ) (l : PlacedLine) (ls : List PlacedLine) (e : TextError) → HasPlace (n + 1) ls e → HasPlace n (l ∷ ls) e
later n l ls e h = record { place = suc h.place; counted = omega (arith, h.counted); line = h.line; there = h.there; begins = h.begins; ends = h.ends }

first : (n at : ℕ) (l : List ℕ) (ls : List PlacedLine) (f : Fault) → IsWithin 0 (length (without_cr l)) f.word → HasPlace n (placed_of at l ∷ ls) (error_of n (record { start = at; bytes = l }) f)
first n at l ls f h = record { place = 0; counted = omega arith; line = placed_of at l; there = refl; begins = omega arith; ends = omega (arith, h.ends) }

step : (n at : ℕ) (l : List ℕ) (ls : List PlacedLine) (f : Option Fault) (es : List TextError) → FaultWithin 0 (length (without_cr l)) f → ((k : ℕ) (e : TextError) → slice_get es k ≡ Some e → HasPlace (n + 1) ls e)
    → (k : ℕ) (e : TextError) → slice_get (option_list (option_map (error_of n (record { start = at; bytes = l })) f) ++ es) k ≡ Some e → HasPlace n (placed_of at l ∷ ls) e
step n at l ls None es h rest k e is = later n (placed_of at l) ls e (rest k e is)
step n at l ls (Some f) es h rest zero e is =
    let same : error_of n (record { start = at; bytes = l }) f ≡ e = cc in
    let P : TextError → Type 0 = HasPlace n (placed_of at l ∷ ls) in
    subst P same (first n at l ls f h)
step n at l ls (Some f) es h rest (suc k) e is = later n (placed_of at l) ls e (rest k e is)

places : (n at : ℕ) (ls : List (List ℕ)) (k : ℕ) (e : TextError) → slice_get (errors_from n (pieces_from at ls)) k ≡ Some e → HasPlace n (placed_from at ls) e
places n at [] k e is = cc
places n at (l ∷ ls) k e is = step n at l (placed_from (at + (length l + 1)) ls) (line_fault l) (errors_from (n + 1) (pieces_from (at + (length l + 1)) ls)) (line_within l) (places (n + 1) (at + (length l + 1)) ls) k e is

placed : (ls : List PlacedLine) (e : TextError) (text : List ℕ) → lines_of text ≡ ls → HasPlace 1 ls e → IsPlacedIn text e
placed ls e text same h = record { place = h.place; counted = omega (arith, h.counted); line = h.line; there = ap (λ qs. slice_get qs h.place) same ∙ h.there; begins = h.begins; ends = h.ends }

-- the errors of a text are in their lines
pub all_placed : (text : List ℕ) → ArePlacedIn text (errors_of text)
all_placed text k e is = placed (lines_of text) e text refl (places 1 0 (slice_split (λ b. b == 10) text) k e is)
