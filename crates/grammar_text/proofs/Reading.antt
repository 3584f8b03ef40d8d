-- Lines that are read one by one.
use Rattle.std.proofs.Common.{◌≡◌, ◌==◌, ◌+◌, ◌<◌, ◌≤◌, ◌^◌, ℕ, suc, Bool, true, false, not, List, [], ◌∷◌, ◌++◌, Some, None, Ok, Err, cond, eqb, ltb, length, length-append, append_assoc, get_or, drop, refl, sym, ap, ◌∙◌, subst, arith, add-zero}
use Rattle.std.specs.Prelude.{position, IfOk, OnOk, IfErr}
use Rattle.std.specs.List.{slice_split, onto_first, position_or_len}
use Rattle.std.specs.declared.result.Result.{Result}
use Rattle.std.proofs.lemmas.Bool.{eq-eqb, lt-ltb, le-ltb}
use Rattle.std.proofs.lemmas.List.{at_drop_more, append-nil}
use Rattle.std.proofs.lemmas.List.Folds.{prefix_len-append}
use Rattle.grammar_text.specs.declared.lines.PlacedLine.{PlacedLine}
use Rattle.grammar_text.specs.declared.collected.Collected.{Collected}
use Rattle.grammar_text.specs.declared.read_error.ReadError.{ReadError}
use Rattle.grammar_text.specs.declared.read_error.ReadError.TheVariants.{Line, TooManyActions, Memory}
use Rattle.grammar_text.specs.Lines.{placed_of, placed_from, lines_of, is_fault}
use Rattle.grammar_text.specs.Grammar.{productions_in}
use Rattle.grammar_text.specs.Collected.{IsCollected, IsSoFar}
use Rattle.grammar_text.specs.Faults.{IsTooLong, IsFaultOf}
use Rattle.grammar_text.proofs.TooLong.{counted}

-- the lines of a text, each as a list of bytes
abbrev pub raw_lines : List ℕ → List (List ℕ)
raw_lines text = slice_split (λ b. b == 10) text

-- the number of bytes of lines, each with a line end of one byte
abbrev pub size : List (List ℕ) → ℕ
size [] = 0
size (l ∷ ls) = length l + 1 + size ls

size_at : (ends : Bool) (b n : ℕ) (ls : List (List ℕ)) → size ls ≡ n + 1 → size (cond ends ([] ∷ ls) (onto_first b ls)) ≡ suc n + 1
size_at true b n ls h = omega (arith, h)
size_at false b n [] h = omega (arith, h)
size_at false b n (l ∷ ls) h = omega (arith, h)

-- the lines of a text, each with a line end, have one byte more than the text
size_of : (text : List ℕ) → size (raw_lines text) ≡ length text + 1
size_of [] = refl
size_of (b ∷ bs) = size_at (b == 10) b (length bs) (raw_lines bs) (size_of bs)

-- if no element of the first list passes, the place of the first that passes is counted from the
-- end of that list
passed : {X : Type 0} (p : X → Bool) (xs ys : List X) → position_or_len p xs ≡ length xs → position_or_len p (xs ++ ys) ≡ length xs + position_or_len p ys
passed p xs ys h =
    let behind = length xs + position_or_len p ys in
    prefix_len-append (λ x. not (p x)) xs ys ∙ ap (λ n. cond (eqb n (length xs)) behind n) h ∙ ap (λ b. cond b behind (length xs)) (eq-eqb (length xs) (length xs) refl)

found : {X : Type 0} (p : X → Bool) (xs ys : List X) (y : X) → position_or_len p xs ≡ length xs → p y ≡ true → position p (xs ++ y ∷ ys) ≡ Some (length xs)
found p xs ys y h e =
    let all = length (xs ++ y ∷ ys) in
    let at : position_or_len p (xs ++ y ∷ ys) ≡ length xs = passed p xs (y ∷ ys) h ∙ ap (λ b. length xs + cond (not b) (1 + position_or_len p ys) 0) e ∙ add-zero (length xs) in
    ap (λ n. cond (ltb n all) (Some n) None) at ∙ ap (λ b. cond b (Some (length xs)) None) (lt-ltb (length xs) all (omega (arith, length-append xs (y ∷ ys))))

not_found : {X : Type 0} (p : X → Bool) (xs : List X) → position_or_len p xs ≡ length xs → position p xs ≡ None
not_found p xs h = ap (λ n. cond (ltb n (length xs)) (Some n) None) h ∙ ap (λ b. cond b (Some (length xs)) None) (le-ltb (length xs) (length xs) (omega arith))

-- a number of lines of a text is read and the next begins at the offset: none of them is a fault,
-- and `so_far` is what they give
pub record IsRead (text : List ℕ) (number at : ℕ) (so_far : Result Collected ReadError) : Type 0 where
  pub done : List PlacedLine
  pub parted : done ++ placed_from at (drop number (raw_lines text)) ≡ lines_of text
  pub counted : length done ≡ number
  pub placed : at + size (drop number (raw_lines text)) ≡ length text + 1
  pub no_fault : position_or_len is_fault done ≡ length done
  pub given : IsSoFar done so_far

-- before the first line, no line is read
pub begun : (text : List ℕ) (c : Collected) → IsCollected [] c → IsRead text 0 0 (Ok c)
begun text c given = record { done = []; parted = refl; counted = refl; placed = omega (arith, size_of text); no_fault = refl; given = (given, omega (arith, counted [] c given)) }

-- the element at a place comes first in the list without those before the place
pub next_line : (ps : List (List ℕ)) (k : ℕ) (l : List ℕ) → k < length ps → l ≡ get_or ps k l → drop k ps ≡ l ∷ drop (k + 1) ps
next_line ps k l within same = at_drop_more (λ (qs : List (List ℕ)). qs) ps k l within ∙ ap (λ x. x ∷ drop (k + 1) ps) (sym same)

module _ (text : List ℕ) (number at : ℕ) (so_far : Result Collected ReadError) (was : IsRead text number at so_far) where
  module _ (line : List ℕ) (next : drop number (raw_lines text) ≡ line ∷ drop (number + 1) (raw_lines text)) where
    -- the line ends within the text
    pub ends_within : at + length line ≤ length text
    ends_within = omega (arith, was.placed, ap size next)

    -- if the line is a fault, it is the first of the text
    pub first_fault : is_fault (placed_of at line) ≡ true → position is_fault (lines_of text) ≡ Some number
    first_fault e =
        let left = placed_from (at + (length line + 1)) (drop (number + 1) (raw_lines text)) in
        ap (position is_fault) (sym was.parted ∙ ap (λ ps. was.done ++ placed_from at ps) next) ∙ found is_fault was.done left (placed_of at line) was.no_fault e ∙ ap Some was.counted

    -- if the line is no fault, one line more is read
    pub more : (new : Result Collected ReadError) → is_fault (placed_of at line) ≡ false → IsSoFar (was.done ++ placed_of at line ∷ []) new → IsRead text (number + 1) (at + (length line + 1)) new
    more new e given =
        let l = placed_of at line in
        let counted = length-append was.done (l ∷ []) in
        record {
          done = was.done ++ l ∷ [];
          parted = append_assoc was.done (l ∷ []) (placed_from (at + (length line + 1)) (drop (number + 1) (raw_lines text))) ∙ ap (λ ps. was.done ++ placed_from at ps) (sym next) ∙ was.parted;
          counted = omega (arith, counted, was.counted);
          placed = omega (arith, was.placed, ap size next);
          no_fault = passed is_fault was.done (l ∷ []) was.no_fault ∙ ap (λ b. length was.done + cond (not b) (1 + 0) 0) e ∙ sym counted;
          given = given;
        }

  module _ (none : drop number (raw_lines text) ≡ []) where
    all : was.done ≡ lines_of text
    all = sym (append-nil was.done) ∙ ap (λ ps. was.done ++ placed_from at ps) (sym none) ∙ was.parted

    -- all lines are read, and none is a fault
    pub no_fault_at_all : position is_fault (lines_of text) ≡ None
    no_fault_at_all = ap (position is_fault) (sym all) ∙ not_found is_fault was.done was.no_fault

    pub all_given : IsSoFar (lines_of text) so_far
    all_given = let P : List PlacedLine → Type 0 = λ ls. IsSoFar ls so_far in subst P all was.given

-- what lines have given is what is collected of them, if it is no error
pub all_collected : (ls : List PlacedLine) (so_far : Result Collected ReadError) → IsSoFar ls so_far → IfOk so_far (IsCollected ls)
all_collected ls (Ok c) given = given.0
all_collected ls (Err e) given = tt

pub few_collected : (ls : List PlacedLine) (so_far : Result Collected ReadError) → IsSoFar ls so_far → OnOk so_far (length (productions_in ls) ≤ 2 ^ 32)
few_collected ls (Ok c) given = omega (arith, counted ls c given.0, given.1)
few_collected ls (Err e) given = tt

fault_of : (ls : List PlacedLine) (e : ReadError) → position is_fault ls ≡ None → IsTooLong ls e → IsFaultOf ls e
fault_of ls (Line n) none long = absurd long
fault_of ls TooManyActions none long = (none, long)
fault_of ls Memory none long = tt

-- if no line is a fault, an error of what lines have given is a fault of them
pub not_collected : (ls : List PlacedLine) (so_far : Result Collected ReadError) → position is_fault ls ≡ None → IsSoFar ls so_far → IfErr so_far (IsFaultOf ls)
not_collected ls (Ok c) none given = tt
not_collected ls (Err e) none given = fault_of ls e none given
