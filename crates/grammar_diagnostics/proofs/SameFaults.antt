-- The faulty words of lines, against the lines of `grammar_text`.
use Rattle.std.proofs.Common.{◌≡◌, ◌==◌, ◌≤◌, ◌<◌, ℕ, zero, suc, ltb, arith, inl, inr, ◌⊎◌, ◌+◌, Bool, true, false, not, ◌&&◌, ◌||◌, List, [], ◌∷◌, ◌++◌, map, length, Option, None, Some, cond, option_map, refl, sym, ap, ◌∙◌}
use Rattle.std.specs.Prelude.{◌↔◌, position, filter, is_some, codes}
use Rattle.std.specs.Str.{bytes_eq}
use Rattle.std.specs.List.{slice_split, flat_map, position_or_len}
use Rattle.std.proofs.lemmas.List.{map-append}
use Rattle.std.proofs.lemmas.Bool.{lt-ltb, le-ltb}
use Rattle.std.proofs.lemmas.List.Sums.{prefix_len-le-length}
use Rattle.lalrpop_grammar.specs.declared.repr.NonterminalString.{NonterminalString}
use Rattle.lalrpop_grammar.specs.declared.repr.Symbol.{Symbol as SymbolType}
use Rattle.lalrpop_grammar.specs.declared.repr.Symbol.TheVariants.{Nonterminal}
use Rattle.grammar_text.specs.declared.lines.Line.{Line}
use Rattle.grammar_text.specs.declared.lines.Line.TheVariants.{Inline, Fault as FaultLine}
use Rattle.grammar_text.specs.declared.lines.PlacedLine.{PlacedLine}
use Rattle.grammar_text.specs.Symbols.{name_of, literal, is_name, quoted, prepend, symbols_of}
use Rattle.grammar_text.specs.Lines.{is_empty, is_fault, is_fault_line, line_of_words, marked_line, placed_from, placed_of, production_or_fault, without_cr, words_of}
use Rattle.grammar_diagnostics.specs.declared.text_errors.TextError.{TextError as ErrorWords}
use Rattle.grammar_diagnostics.specs.Pieces.{Piece, between_tabs, is_word, pieces_from, words_at}
use Rattle.grammar_diagnostics.specs.Faults.{Fault, fault_after_mark, fault_of, mark_fault, other_fault, right_fault, word_reason}
use Rattle.grammar_diagnostics.specs.TextErrors.{TextError, error_of, error_view, line_number, errors_from, faulty_from, line_fault, option_list}

-- the bytes of pieces
abbrev pub all_bytes : List Piece → List (List ℕ)
all_bytes ps = map (λ (p : Piece). p.bytes) ps

right_step : (a : NonterminalString) (named : Bool) (x : SymbolType) (text : Option (List ℕ)) (rest : Option (List SymbolType)) (f : Option Fault) (e : Fault) → is_some f ≡ is_fault_line (production_or_fault a rest)
    → is_some (cond (named || is_some text) f (Some e)) ≡ is_fault_line (production_or_fault a (prepend (cond named (Some x) (option_map literal text)) rest))
right_step a true x text None f e h = h
right_step a true x text (Some xs) f e h = h
right_step a false x None rest f e h = refl
right_step a false x (Some t) None f e h = h
right_step a false x (Some t) (Some xs) f e h = h

-- a right side has a faulty word if one of its words has no symbol
right_same : (a : NonterminalString) (ws : List Piece) → is_some (right_fault ws) ≡ is_fault_line (production_or_fault a (symbols_of (all_bytes ws)))
right_same a [] = refl
right_same a (w ∷ ws) = right_step a (is_name w.bytes) (Nonterminal (name_of w.bytes)) (quoted w.bytes) (symbols_of (all_bytes ws)) (right_fault ws) (record { reason = word_reason w.bytes; word = w }) (right_same a ws)

mark_step : (b : Bool) (f : Fault) (l : Line) (ws : List Piece) → is_fault_line l ≡ false → is_some (cond b (fault_after_mark ws) (Some f)) ≡ is_fault_line (cond (is_empty (all_bytes ws) && b) l FaultLine)
mark_step true f l [] h = sym h
mark_step true f l (w ∷ ws) h = refl
mark_step false f l [] h = refl
mark_step false f l (w ∷ ws) h = refl

mark_same : (w v : Piece) (ws : List Piece) → is_some (mark_fault w v ws) ≡ is_fault_line (marked_line w.bytes v.bytes (all_bytes ws))
mark_same w v ws = mark_step (bytes_eq w.bytes (codes "inline") && is_name v.bytes) (other_fault w v) (Inline (name_of v.bytes)) ws refl

either_step : (t : Bool) (f g : Option Fault) (l m : Line) → is_some f ≡ is_fault_line l → is_some g ≡ is_fault_line m → is_some (cond t f g) ≡ is_fault_line (cond t l m)
either_step true f g l m h k = h
either_step false f g l m h k = k

-- words have a faulty one if they are those of no grammar line
pub same_fault : (ws : List Piece) → is_some (fault_of ws) ≡ is_fault_line (line_of_words (all_bytes ws))
same_fault [] = refl
same_fault (w ∷ []) = refl
same_fault (w ∷ v ∷ ws) = either_step (bytes_eq v.bytes (codes "=") && is_name w.bytes) (right_fault ws) (mark_fault w v ws) (production_or_fault (name_of w.bytes) (symbols_of (all_bytes ws))) (marked_line w.bytes v.bytes (all_bytes ws))
    (right_same (name_of w.bytes) ws) (mark_same w v ws)

-- ---- the words with places are those of the line
pieces_bytes : (at : ℕ) (ps : List (List ℕ)) → all_bytes (pieces_from at ps) ≡ ps
pieces_bytes at [] = refl
pieces_bytes at (p ∷ ps) = ap (λ qs. p ∷ qs) (pieces_bytes (at + (length p + 1)) ps)

filter_step : (b : Bool) (p : Piece) (xs : List Piece) (ys : List (List ℕ)) → all_bytes xs ≡ ys → all_bytes (cond b (p ∷ xs) xs) ≡ cond b (p.bytes ∷ ys) ys
filter_step true p xs ys h = ap (λ zs. p.bytes ∷ zs) h
filter_step false p xs ys h = h

filter_bytes : (ps : List Piece) → all_bytes (filter is_word ps) ≡ filter (λ w. not (is_empty w)) (all_bytes ps)
filter_bytes [] = refl
filter_bytes (p ∷ ps) = filter_step (is_word p) p _ _ (filter_bytes ps)

flat_bytes : (ps : List Piece) → all_bytes (flat_map between_tabs ps) ≡ flat_map (λ piece. slice_split (λ b. b == 9) piece) (all_bytes ps)
flat_bytes [] = refl
flat_bytes (p ∷ ps) =
    map-append (λ (p : Piece). p.bytes) (between_tabs p) (flat_map between_tabs ps)
    ∙ ap (λ qs. qs ++ all_bytes (flat_map between_tabs ps)) (pieces_bytes p.start (slice_split (λ b. b == 9) p.bytes))
    ∙ ap (λ qs. slice_split (λ b. b == 9) p.bytes ++ qs) (flat_bytes ps)

-- the words of a line with their places are its words
pub same_words : (at : ℕ) (line : List ℕ) → all_bytes (words_at at line) ≡ words_of line
same_words at line =
    let parts = pieces_from at (slice_split (λ b. b == 32) line) in
    filter_bytes (flat_map between_tabs parts)
    ∙ ap (filter (λ w. not (is_empty w))) (flat_bytes parts)
    ∙ ap (λ ps. filter (λ w. not (is_empty w)) (flat_map (λ piece. slice_split (λ b. b == 9) piece) ps)) (pieces_bytes at (slice_split (λ b. b == 32) line))

-- a line has a fault if it is no grammar line
pub same_line : (at : ℕ) (line : List ℕ) → is_some (line_fault line) ≡ is_fault (placed_of at line)
same_line at line = same_fault (words_at 0 (without_cr line)) ∙ ap (λ ws. is_fault_line (line_of_words ws)) (same_words 0 (without_cr line))

-- the numbers of the lines of errors
abbrev pub numbers : List TextError → List ℕ
numbers es = map (λ (e : TextError). e.line) es

number_step : (n : ℕ) (line : Piece) (f : Option Fault) (b : Bool) (es : List TextError) (ns : List ℕ) → is_some f ≡ b → numbers es ≡ ns → numbers (option_list (option_map (error_of n line) f) ++ es) ≡ cond b (n ∷ ns) ns
number_step n line None true es ns h k = cc
number_step n line None false es ns h k = k
number_step n line (Some f) true es ns h k = ap (λ ms. n ∷ ms) k
number_step n line (Some f) false es ns h k = cc

-- the lines that have errors are those that are no grammar lines
pub same_lines : (n at : ℕ) (ls : List (List ℕ)) → numbers (errors_from n (pieces_from at ls)) ≡ faulty_from n (placed_from at ls)
same_lines n at [] = refl
same_lines n at (l ∷ ls) = number_step n (record { start = at; bytes = l }) (line_fault l) (is_fault (placed_of at l)) _ _ (same_line at l) (same_lines (n + 1) (at + (length l + 1)) ls)

-- the numbers of errors, from the type of the code
pub seen_numbers : (es : List ErrorWords) → map line_number es ≡ numbers (map error_view es)
seen_numbers [] = refl
seen_numbers (e ∷ es) = ap (λ ns. e.line ∷ ns) (seen_numbers es)

-- ---- a text without errors
none_step : (t : Bool) (n : ℕ) (l : PlacedLine) (ls : List PlacedLine) → is_fault l ≡ t → (faulty_from (n + 1) ls ≡ [] → position_or_len is_fault ls ≡ length ls) → cond t (n ∷ faulty_from (n + 1) ls) (faulty_from (n + 1) ls) ≡ [] → cond (not t) (1 + position_or_len is_fault ls) 0 ≡ suc (length ls)
none_step true n l ls e rest h = cc
none_step false n l ls e rest h = omega (arith, rest h)

none_faulty : (n : ℕ) (ls : List PlacedLine) → faulty_from n ls ≡ [] → position_or_len is_fault ls ≡ length ls
none_faulty n [] h = refl
none_faulty n (l ∷ ls) h = none_step (is_fault l) n l ls refl (none_faulty (n + 1) ls) h

all_step : (t : Bool) (n : ℕ) (ls : List PlacedLine) → (position_or_len is_fault ls ≡ length ls → faulty_from (n + 1) ls ≡ []) → cond (not t) (1 + position_or_len is_fault ls) 0 ≡ suc (length ls) → cond t (n ∷ faulty_from (n + 1) ls) (faulty_from (n + 1) ls) ≡ []
all_step true n ls rest h = absurd (omega (arith, h))
all_step false n ls rest h = rest (omega (arith, h))

all_right : (n : ℕ) (ls : List PlacedLine) → position_or_len is_fault ls ≡ length ls → faulty_from n ls ≡ []
all_right n [] h = refl
all_right n (l ∷ ls) h = all_step (is_fault l) n ls (all_right (n + 1) ls) h

position_none : (ls : List PlacedLine) → position_or_len is_fault ls ≡ length ls → position is_fault ls ≡ None
position_none ls h = ap (λ n. cond (ltb n (length ls)) (Some n) None) h ∙ ap (λ b. cond b (Some (length ls)) None) (le-ltb (length ls) (length ls) (omega arith))

apart : (k n : ℕ) → k ≤ n → (k < n) ⊎ (k ≡ n)
apart zero zero le = inr refl
apart zero (suc n) le = inl (omega arith)
apart (suc k) zero le = absurd (omega (arith, le))
apart (suc k) (suc n) le = elim (apart k n (omega (arith, le))) [ inl less ↦ inl (omega (arith, less)) | inr same ↦ inr (ap suc same) ]

none_position : (t : Bool) (k n : ℕ) → ltb k n ≡ t → k ≤ n → cond t (Some k) None ≡ None → k ≡ n
none_position true k n e le h = cc
none_position false k n e le h = same_or_less k n le (λ less. no_clash (sym (lt-ltb k n less) ∙ e))
  where
    no_clash : true ≡ false → ⊥
    no_clash h = cc

    same_or_less : (k n : ℕ) → k ≤ n → (k < n → ⊥) → k ≡ n
    same_or_less k n le h = elim (apart k n le) [ inl less ↦ absurd (h less) | inr same ↦ same ]

empty_numbers : (es : List ErrorWords) → map line_number es ≡ [] → es ≡ []
empty_numbers [] h = refl
empty_numbers (e ∷ es) h = cc

-- there is no error if no line is a fault
pub no_error_iff : (es : List ErrorWords) (ls : List PlacedLine) → map line_number es ≡ faulty_from 1 ls → (es ≡ []) ↔ (position is_fault ls ≡ None)
no_error_iff es ls same = (
  λ none. position_none ls (none_faulty 1 ls (sym same ∙ ap (λ xs. map line_number xs) none)),
  λ none. empty_numbers es (same ∙ all_right 1 ls (none_position (ltb (position_or_len is_fault ls) (length ls)) (position_or_len is_fault ls) (length ls) refl (prefix_len-le-length (λ l. not (is_fault l)) ls) none)),
)
