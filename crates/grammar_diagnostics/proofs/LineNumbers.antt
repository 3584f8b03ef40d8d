-- The line in which an offset is has the number of line ends before the offset as its place in the list of lines.
use Rattle.std.proofs.Common.{◌≡◌, ◌==◌, ◌≤◌, ◌<◌, ℕ, zero, suc, ◌+◌, ◌-◌, Bool, true, false, List, [], ◌∷◌, length, map, take, filter, get_or, Option, None, Some, cond, option_map, refl, sym, ap, ◌∙◌, arith}
use Rattle.std.specs.Prelude.{find, nat_le, slice_get}
use Rattle.std.specs.List.{slice_split, onto_first}
use Rattle.std.proofs.lemmas.Bool.Decides.{nat_tests}
use Rattle.std.proofs.lemmas.Option.{slice_get_read}
use Rattle.grammar_diagnostics.specs.declared.pieces.Piece.{Piece as PieceWords}
use Rattle.grammar_diagnostics.specs.Pieces.{Piece, piece_view, pieces_from}
use Rattle.grammar_diagnostics.specs.Places.{is_line_end}
use Rattle.grammar_diagnostics.specs.TextLines.{ends_after, line_with, text_lines}
use Rattle.grammar_diagnostics.proofs.Within.{AreWithin, size, size_of, text_within}

-- ---- tests
at_most : (m n : ℕ) → nat_le m n ≡ true → m ≤ n
at_most m n h = grind (arith, nat_tests)

more : (m n : ℕ) → nat_le m n ≡ false → n < m
more m n h = grind (arith, nat_tests)

is_at_most : (t : Bool) (m n : ℕ) → nat_le m n ≡ t → m ≤ n → t ≡ true
is_at_most true m n e le = refl
is_at_most false m n e le = absurd (omega (arith, le, more m n e))

is_more : (t : Bool) (m n : ℕ) → nat_le m n ≡ t → n < m → t ≡ false
is_more true m n e less = absurd (omega (arith, less, at_most m n e))
is_more false m n e less = refl

-- ---- the place of the part in which an offset is
abbrev part_place : ℕ → List (List ℕ) → ℕ
part_place offset [] = 0
part_place offset (p ∷ ps) = cond (nat_le offset (length p)) 0 (suc (part_place (offset - (length p + 1)) ps))

here : (offset : ℕ) (p : List ℕ) (ps : List (List ℕ)) → offset ≤ length p → part_place offset (p ∷ ps) ≡ 0
here offset p ps le = ap (λ (t : Bool). cond t 0 (suc (part_place (offset - (length p + 1)) ps))) (is_at_most (nat_le offset (length p)) offset (length p) refl le)

later : (offset : ℕ) (p : List ℕ) (ps : List (List ℕ)) → length p < offset → part_place offset (p ∷ ps) ≡ suc (part_place (offset - (length p + 1)) ps)
later offset p ps less = ap (λ (t : Bool). cond t 0 (suc (part_place (offset - (length p + 1)) ps))) (is_more (nat_le offset (length p)) offset (length p) refl less)

-- it is that of the first line that ends after the offset
found_step : (t : Bool) (at offset : ℕ) (p : List ℕ) (ps : List (List ℕ)) → nat_le offset (length p) ≡ t → find (ends_after (at + (length p + 1) + (offset - (length p + 1)))) (pieces_from (at + (length p + 1)) ps) ≡ slice_get (pieces_from (at + (length p + 1)) ps) (part_place (offset - (length p + 1)) ps)
    → find (ends_after (at + offset)) (pieces_from at (p ∷ ps)) ≡ slice_get (pieces_from at (p ∷ ps)) (cond t 0 (suc (part_place (offset - (length p + 1)) ps)))
found_step true at offset p ps e rest =
    let head : Piece = record { start = at; bytes = p } in
    let back : at + offset - at ≡ offset = omega arith in
    let test : ends_after (at + offset) head ≡ true = ap (λ (n : ℕ). nat_le n (length p)) back ∙ e in
    ap (λ (t : Bool). cond t (Some head) (find (ends_after (at + offset)) (pieces_from (at + (length p + 1)) ps))) test
found_step false at offset p ps e rest =
    let head : Piece = record { start = at; bytes = p } in
    let back : at + offset - at ≡ offset = omega arith in
    let test : ends_after (at + offset) head ≡ false = ap (λ (n : ℕ). nat_le n (length p)) back ∙ e in
    let less : length p < offset = more offset (length p) e in
    let same : at + offset ≡ at + (length p + 1) + (offset - (length p + 1)) = omega (arith, less) in
    ap (λ (t : Bool). cond t (Some head) (find (ends_after (at + offset)) (pieces_from (at + (length p + 1)) ps))) test
    ∙ ap (λ (n : ℕ). find (ends_after n) (pieces_from (at + (length p + 1)) ps)) same
    ∙ rest

found_part : (at offset : ℕ) (ps : List (List ℕ)) → find (ends_after (at + offset)) (pieces_from at ps) ≡ slice_get (pieces_from at ps) (part_place offset ps)
found_part at offset [] = refl
found_part at offset (p ∷ ps) = found_step (nat_le offset (length p)) at offset p ps refl (found_part (at + (length p + 1)) (offset - (length p + 1)) ps)

-- it is the number of line ends before the offset
onto_step : (t : Bool) (offset b : ℕ) (p : List ℕ) (ps : List (List ℕ)) → nat_le offset (length p) ≡ t → part_place (suc offset) ((b ∷ p) ∷ ps) ≡ part_place offset (p ∷ ps)
onto_step true offset b p ps e =
    let le : offset ≤ length p = at_most offset (length p) e in
    here (suc offset) (b ∷ p) ps (omega (arith, le)) ∙ sym (here offset p ps le)
onto_step false offset b p ps e =
    let less : length p < offset = more offset (length p) e in
    let same : suc offset - (length (b ∷ p) + 1) ≡ offset - (length p + 1) = omega arith in
    later (suc offset) (b ∷ p) ps (omega (arith, less)) ∙ ap (λ (n : ℕ). suc (part_place n ps)) same ∙ sym (later offset p ps less)

count_step : (t : Bool) (offset b : ℕ) (ps : List (List ℕ)) (rest : List ℕ) → (ps ≡ [] → ⊥) → part_place offset ps ≡ length rest → part_place (suc offset) (cond t ([] ∷ ps) (onto_first b ps)) ≡ length (cond t (b ∷ rest) rest)
count_step true offset b ps rest some h =
    let same : suc offset - (0 + 1) ≡ offset = omega arith in
    later (suc offset) [] ps (omega arith) ∙ ap (λ (n : ℕ). suc (part_place n ps)) same ∙ ap suc h
count_step false offset b [] rest some h = absurd (some refl)
count_step false offset b (p ∷ ps) rest some h = onto_step (nat_le offset (length p)) offset b p ps refl ∙ h

some_part : (by : ℕ → Bool) (text : List ℕ) → slice_split by text ≡ [] → ⊥
some_part by text none = let n : 0 ≡ length text + 1 = ap size (sym none) ∙ size_of by text in absurd (omega (arith, n))

place_zero : (ps : List (List ℕ)) → part_place 0 ps ≡ 0
place_zero [] = refl
place_zero (p ∷ ps) = here 0 p ps (omega arith)

place_count : (offset : ℕ) (text : List ℕ) → offset ≤ length text → part_place offset (slice_split (λ b. b == 10) text) ≡ length (filter is_line_end (take offset text))
place_count zero text h = place_zero (slice_split (λ b. b == 10) text)
place_count (suc offset) [] h = absurd (omega (arith, h))
place_count (suc offset) (b ∷ bs) h = count_step (b == 10) offset b (slice_split (λ b. b == 10) bs) (filter is_line_end (take offset bs)) (some_part (λ b. b == 10) bs) (place_count offset bs (omega (arith, h)))

-- ---- the line
line_found : (offset : ℕ) (text : List ℕ) → offset ≤ length text → line_with offset text ≡ slice_get (text_lines text) (length (filter is_line_end (take offset text)))
line_found offset text h =
    let start : offset ≡ 0 + offset = omega arith in
    ap (λ (n : ℕ). find (ends_after n) (text_lines text)) start
    ∙ found_part 0 offset (slice_split (λ b. b == 10) text)
    ∙ ap (slice_get (text_lines text)) (place_count offset text h)

get_view : (ls : List PieceWords) (k : ℕ) → slice_get (map piece_view ls) k ≡ option_map piece_view (slice_get ls k)
get_view [] k = refl
get_view (l ∷ ls) zero = refl
get_view (l ∷ ls) (suc k) = get_view ls k

none_at : (ls : List PieceWords) (k : ℕ) → length ls ≤ k → slice_get ls k ≡ None
none_at [] k h = refl
none_at (l ∷ ls) zero h = absurd (omega (arith, h))
none_at (l ∷ ls) (suc k) h = none_at ls k (omega (arith, h))

module _ (offset place : ℕ) (text : List ℕ) (ls : List PieceWords) (are : map piece_view ls ≡ text_lines text) (within : offset ≤ length text) (counted : place ≡ length (filter is_line_end (take offset text))) where
  read : option_map piece_view (slice_get ls place) ≡ line_with offset text
  read = sym (get_view ls place) ∙ ap (λ (qs : List Piece). slice_get qs place) are ∙ ap (slice_get (text_lines text)) counted ∙ sym (line_found offset text within)

  -- the line with the number is that in which the offset is
  pub line_there : (line : PieceWords) → place < length ls → line ≡ get_or ls place line → Some (piece_view line) ≡ line_with offset text
  line_there line less is = ap (option_map piece_view) (sym (slice_get_read ls (length ls) place line refl less is)) ∙ read

  pub line_missing : length ls ≤ place → None ≡ line_with offset text
  line_missing past = ap (option_map piece_view) (sym (none_at ls place past)) ∙ read

none_step : (t : Bool) (offset : ℕ) (p : Piece) (o : Option Piece) → ends_after offset p ≡ t → p.start + length p.bytes < offset → o ≡ None → cond t (Some p) o ≡ None
none_step true offset p o e less none = absurd (omega (arith, less, at_most (offset - p.start) (length p.bytes) e))
none_step false offset p o e less none = none

none_after : (high offset : ℕ) (ps : List Piece) → AreWithin 0 high ps → high < offset → find (ends_after offset) ps ≡ None
none_after high offset [] h past = refl
none_after high offset (p ∷ ps) h past = none_step (ends_after offset p) offset p (find (ends_after offset) ps) refl (omega (arith, h.0.ends, past)) (none_after high offset ps h.1 past)

-- no line has an offset after the end of the text
pub line_past : (offset : ℕ) (text : List ℕ) → length text < offset → None ≡ line_with offset text
line_past offset text past = sym (none_after (0 + length text) offset (text_lines text) (text_within (λ b. b == 10) 0 text) (omega (arith, past)))
