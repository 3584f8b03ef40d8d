-- The places of blocks in a list, and what a list has there.
use Rattle.std.proofs.Common.{◌≡◌, ◌+◌, ◌-◌, ◌*◌, ◌≤◌, ℕ, zero, suc, List, [], ◌∷◌, ◌++◌, Option, None, Some, cond, length, take, drop, slice_get, refl, sym, ◌∙◌, ap, arith, add-one, length-append, length-drop}
use Rattle.std.specs.Prelude.{slice_range}
use Rattle.std.specs.List.{flat_map}
use Rattle.std.proofs.Math.Seq.{drop-append-add, take-append_seam}
use Rattle.std.proofs.lemmas.Bool.{le-leb}
use Rattle.parse_calls.specs.Places.{counted_at, items_after, part}
use Rattle.table_numbers.specs.Layout.{places_from}

-- the first item of a list, if there is one
abbrev first_of : {A : Type 0} → List A → Option A
first_of [] = None
first_of (x ∷ xs) = Some x

-- the item at a place is the first from there on
pub get_drop : {A : Type 0} (xs : List A) (n : ℕ) → slice_get xs n ≡ first_of (drop n xs)
get_drop [] zero = refl
get_drop [] (suc n) = refl
get_drop (x ∷ xs) zero = refl
get_drop (x ∷ xs) (suc n) = get_drop xs n

-- an item after a part is one of the rest
pub get_after : {A : Type 0} (xs ys : List A) (n : ℕ) → slice_get (xs ++ ys) (length xs + n) ≡ slice_get ys n
get_after {A} [] ys n =
    let none : length {A = A} [] + n ≡ n = omega arith in
    ap (slice_get ys) none
get_after (x ∷ xs) ys n =
    let more : length (x ∷ xs) + n ≡ suc (length xs + n) = omega arith in
    ap (slice_get (x ∷ xs ++ ys)) more ∙ get_after xs ys n

-- an item of a part
pub get_within : {A : Type 0} (xs ys : List A) (n : ℕ) (x : A) → slice_get xs n ≡ Some x → slice_get (xs ++ ys) n ≡ Some x
get_within [] ys n x e = cc
get_within (y ∷ xs) ys zero x e = e
get_within (y ∷ xs) ys (suc n) x e = get_within xs ys n x e

module _ {A : Type 0} (block : A → List ℕ) where
  -- the block with a number begins after those before it
  pub place_of : (at : ℕ) (xs : List A) (n : ℕ) (x : A) → slice_get xs n ≡ Some x → slice_get (places_from block at xs) n ≡ Some (at + length (flat_map block (take n xs)))
  place_of at [] n x e = cc
  place_of at (y ∷ xs) zero x e = let same : at + 0 ≡ at = omega arith in ap (λ (k : ℕ). Some k) (sym same)
  place_of at (y ∷ xs) (suc n) x e =
      let long = length-append (block y) (flat_map block (take n xs)) in
      let same : at + length (block y) + length (flat_map block (take n xs)) ≡ at + length (block y ++ flat_map block (take n xs)) = omega (arith, long) in
      place_of (at + length (block y)) xs n x e ∙ ap (λ (k : ℕ). Some k) same

  -- there it is
  pub block_there : (xs : List A) (n : ℕ) (x : A) → slice_get xs n ≡ Some x → drop (length (flat_map block (take n xs))) (flat_map block xs) ≡ block x ++ flat_map block (drop (suc n) xs)
  block_there [] n x e = cc
  block_there (y ∷ xs) zero x e = let same : y ≡ x = cc in ap (λ (z : A). block z ++ flat_map block xs) same
  block_there (y ∷ xs) (suc n) x e =
      ap (λ k. drop k (block y ++ flat_map block xs)) (length-append (block y) (flat_map block (take n xs)))
      ∙ drop-append-add (block y) (flat_map block xs) (length (flat_map block (take n xs)))
      ∙ block_there xs n x e

-- one number more is left out
drop_next : (numbers : List ℕ) (place : ℕ) (x : ℕ) (rest : List ℕ) → drop place numbers ≡ x ∷ rest → drop (suc place) numbers ≡ rest
drop_next [] zero x rest e = cc
drop_next [] (suc place) x rest e = cc
drop_next (y ∷ numbers) zero x rest e = cc
drop_next (y ∷ numbers) (suc place) x rest e = drop_next numbers place x rest e

drop_one : (numbers : List ℕ) (place : ℕ) (x : ℕ) (rest : List ℕ) → drop place numbers ≡ x ∷ rest → drop (place + 1) numbers ≡ rest
drop_one numbers place x rest e = ap (λ k. drop k numbers) (add-one place) ∙ drop_next numbers place x rest e

-- so is a part
pub drop_part : (numbers : List ℕ) (place : ℕ) (xs rest : List ℕ) → drop place numbers ≡ xs ++ rest → drop (place + length xs) numbers ≡ rest
drop_part numbers place [] rest e = ap (λ k. drop k numbers) (let same : place + 0 ≡ place = omega arith in same) ∙ e
drop_part numbers place (x ∷ xs) rest e =
    let same : place + length (x ∷ xs) ≡ place + 1 + length xs = omega arith in
    ap (λ k. drop k numbers) same ∙ drop_part numbers (place + 1) xs rest (drop_one numbers place x (xs ++ rest) e)

-- numbers from a place on end within the list
part_within : (numbers : List ℕ) (place x : ℕ) (xs rest : List ℕ) → drop place numbers ≡ x ∷ xs ++ rest → place + 1 + length xs ≤ length numbers
part_within numbers place x xs rest e =
    let left = length-drop place numbers in
    let long : length (drop place numbers) ≡ 1 + (length xs + length rest) = ap length e ∙ (let more = length-append xs rest in omega (arith, more)) in
    omega (arith, left, long)

-- a counted list is where it begins
pub counted_there : (each : ℕ) (numbers : List ℕ) (place count : ℕ) (xs rest : List ℕ) → drop place numbers ≡ count ∷ xs ++ rest → each * count ≡ length xs → counted_at each numbers place ≡ Some xs
counted_there each numbers place count xs rest e long =
    ap (items_after each numbers place) (get_drop numbers place ∙ ap first_of e)
    ∙ ap (part numbers (place + 1)) long
    ∙ ap (λ b. cond b (Some (slice_range numbers (place + 1) (place + 1 + length xs))) None) (le-leb (place + 1 + length xs) (length numbers) (part_within numbers place count xs rest e))
    ∙ ap (λ (l : List ℕ). Some l) (cut ∙ ap (take (length xs)) (drop_one numbers place count (xs ++ rest) e) ∙ take-append_seam xs rest)
  where
    cut : slice_range numbers (place + 1) (place + 1 + length xs) ≡ take (length xs) (drop (place + 1) numbers)
    cut = ap (λ k. take k (drop (place + 1) numbers)) (let same : place + 1 + length xs - (place + 1) ≡ length xs = omega arith in same)
