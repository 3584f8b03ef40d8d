-- The places of blocks, while they are listed one after the other.
use Rattle.std.proofs.Common.{◌≡◌, ℕ, ◌+◌, ◌*◌, ◌<◌, List, [], ◌∷◌, ◌++◌, length, drop, get_or, refl, sym, ◌∙◌, ap, arith, append_assoc, length-append}
use Rattle.std.specs.List.{flat_map}
use Rattle.std.proofs.lemmas.List.{drop_more}
use Rattle.table_numbers.specs.Layout.{counted_pairs, item_block, item_numbers, pair_numbers, places_from, state_block}
use Rattle.table_numbers.specs.declared.tables.NumberedItem.{NumberedItem}
use Rattle.table_numbers.specs.declared.tables.NumberedState.{NumberedState}

-- pairs have two numbers each
pub length-pair_numbers : (pairs : List (ℕ × ℕ)) → length (pair_numbers pairs) ≡ 2 * length pairs
length-pair_numbers [] = refl
length-pair_numbers (p ∷ pairs) = let rest = length-pair_numbers pairs in omega (arith, rest)

-- a counted list has one number more
pub length-counted : (pairs : List (ℕ × ℕ)) → length (counted_pairs pairs) ≡ 1 + 2 * length pairs
length-counted pairs = let some = length-pair_numbers pairs in omega (arith, some)

-- items have three numbers each
pub length-item_numbers : (items : List NumberedItem) → length (item_numbers items) ≡ 3 * length items
length-item_numbers [] = refl
length-item_numbers (i ∷ items) = let rest = length-item_numbers items in omega (arith, rest)

-- a block of items has one number more
pub length-item_block : (items : List NumberedItem) → length (item_block items) ≡ 1 + 3 * length items
length-item_block items = let some = length-item_numbers items in omega (arith, some)

-- the block of a state has those of three lists
pub length-state_block : (s : NumberedState) → length (state_block s) ≡ length (counted_pairs s.shifts) + (length (counted_pairs s.gotos) + length (counted_pairs s.reductions))
length-state_block s =
    length-append (counted_pairs s.shifts) (counted_pairs s.gotos ++ counted_pairs s.reductions)
    ∙ ap (λ n. length (counted_pairs s.shifts) + n) (length-append (counted_pairs s.gotos) (counted_pairs s.reductions))

module _ {A : Type 0} (block : A → List ℕ) where
  -- the place of one more block was listed
  pub next_place : (out : List ℕ) (all : List ℕ) (xs : List A) (i place next : ℕ) (x : A) → i < length xs → x ≡ get_or xs i x → next ≡ place + length (block x) →
      out ++ places_from block place (drop i xs) ≡ all → (out ++ place ∷ []) ++ places_from block next (drop (i + 1) xs) ≡ all
  next_place out all xs i place next x l is at e =
      append_assoc out (place ∷ []) (places_from block next (drop (i + 1) xs))
      ∙ ap (λ n. out ++ place ∷ places_from block n (drop (i + 1) xs)) at
      ∙ ap (λ ys. out ++ places_from block place (ys ∷ drop (i + 1) xs)) is
      ∙ ap (λ ys. out ++ places_from block place ys) (sym (drop_more xs i x l))
      ∙ e

  -- the place after the other blocks stays the same
  pub next_end : (end : ℕ) (xs : List A) (i place next : ℕ) (x : A) → i < length xs → x ≡ get_or xs i x → next ≡ place + length (block x) →
      place + length (flat_map block (drop i xs)) ≡ end → next + length (flat_map block (drop (i + 1) xs)) ≡ end
  next_end end xs i place next x l is at e =
      let split : drop i xs ≡ x ∷ drop (i + 1) xs = drop_more xs i x l ∙ ap (λ y. y ∷ drop (i + 1) xs) (sym is) in
      let long : length (flat_map block (drop i xs)) ≡ length (block x) + length (flat_map block (drop (i + 1) xs)) =
      ap (λ ys. length (flat_map block ys)) split ∙ length-append (block x) (flat_map block (drop (i + 1) xs)) in
      omega (arith, long, at, e)
