-- Items by number, and properties of the numbers of a grammar.
use Rattle.std.proofs.Common.{◌≡◌, ◌∙◌, ℕ, zero, suc, ◌+◌, ◌<◌, List, [], ◌∷◌, length, map, refl, sym, ap, subst, arith, inl, inr, drop}
use Rattle.std.specs.Prelude.{◌↔◌, slice_get, Option, Some, None, Contains}
use Rattle.std.proofs.lemmas.Option.{slice_get_within, slice_get-map}
use Rattle.lalrpop_base.specs.Words.{AllDiffer, Dotted, Ordered, Rules, Ascend, Precedes, IsBehind, AreNumbers, AreNumbered, IsNumberBehind, dotted_at, item_by}
use Rattle.lalrpop_base.specs.Words.{items_by, shifted}
use Rattle.lalrpop_construction.proofs.Types.{Nil, Symbol}
use Rattle.lalrpop_collections.proofs.theory.lists.Lists.{some_of_map}
use Rattle.lalrpop_numbers.specs.declared.numbers.numbered.Numbered.{Numbered}
use Rattle.lalrpop_numbers.specs.declared.numbers.Numbers.{Numbers}
use Rattle.lalrpop_states.proofs.theory.grammars.AscendingItems.{precedes_asymmetric}
use Rattle.lalrpop_collections.proofs.theory.lists.Members.{contains_head, contains_tail}
use Rattle.lalrpop_collections.proofs.theory.lists.Places.{contains_at, places_apart, same_some}

-- ---- a dotted production by its number
pub at_number : (items : List (Dotted Nil)) (k : ℕ) (i : Dotted Nil) → slice_get items k ≡ Some i → dotted_at items k ≡ i
at_number [] k i h = cc
at_number (j ∷ items) zero i h = same_some j i h
at_number (j ∷ items) (suc k) i h = at_number items k i h

pub stands_at : (items : List (Dotted Nil)) (k : ℕ) → k < length items → slice_get items k ≡ Some (dotted_at items k)
stands_at [] k l = absurd (omega arith)
stands_at (j ∷ items) zero l = refl
stands_at (j ∷ items) (suc k) l = stands_at items k (omega arith)

-- ---- numbers of dotted productions that ascend
module _ (items : List (Dotted Nil)) (ascend : Ascend items) where
  -- a lesser number is that of a lesser dotted production
  pub numbers_precede : (a b : ℕ) → a < b → b < length items → Precedes (dotted_at items a) (dotted_at items b)
  numbers_precede a b l m = ascend a b (dotted_at items a) (dotted_at items b) l (stands_at items a (omega arith)) (stands_at items b m)

  apart : (a b : ℕ) → a < b → b < length items → dotted_at items a ≡ dotted_at items b → ⊥
  apart a b l m e =
      let before : Precedes (dotted_at items b) (dotted_at items b) = subst (λ (i : Dotted Nil). Precedes i (dotted_at items b)) e (numbers_precede a b l m) in
      precedes_asymmetric (dotted_at items b) (dotted_at items b) before before

  -- a dotted production has at most one number
  pub one_number : (a b : ℕ) → a < length items → b < length items → dotted_at items a ≡ dotted_at items b → a ≡ b
  one_number a b l m e = elim (places_apart a b) [
    | inl before ↦ absurd (apart a b before m e)
    | inr other ↦ elim other [ inl behind ↦ absurd (apart b a behind l (sym e)) | inr same ↦ same ]
  ]

  -- the dotted productions differ
  pub dotted_differ : AllDiffer items
  dotted_differ i j x l at_i at_j = let before = ascend i j x x l at_i at_j in precedes_asymmetric x x before before

  module _ {L : Type 0} where
    -- items by number are the same if their items are
    pub same_number : (d e : Numbered L) → d.number < length items → e.number < length items → item_by items d ≡ item_by items e → d ≡ e
    same_number d e l m h =
        let bare : Dotted L → Dotted Nil = λ i. record { production = i.production; index = i.index; lookahead = record {} } in
        let number : d.number ≡ e.number = one_number d.number e.number l m (ap bare h) in
        let lookahead : d.lookahead ≡ e.lookahead = ap (λ (i : Dotted L). i.lookahead) h in
        let make : ℕ → L → Numbered L = λ n t. record { number = n; lookahead = t } in
        ap (λ n. make n d.lookahead) number ∙ ap (make e.number) lookahead

    -- lists of items by number are the same if their items are
    pub same_numbers : (xs ys : List (Numbered L)) → AreNumbered items xs → AreNumbered items ys → items_by items xs ≡ items_by items ys → xs ≡ ys
    same_numbers [] [] a b h = refl
    same_numbers [] (y ∷ ys) a b h = cc
    same_numbers (x ∷ xs) [] a b h = cc
    same_numbers (x ∷ xs) (y ∷ ys) a b h =
        let head : item_by items x ≡ item_by items y = same_some (item_by items x) (item_by items y) (ap (λ (l : List (Dotted L)). slice_get l 0) h) in
        let rest : items_by items xs ≡ items_by items ys = ap (λ (l : List (Dotted L)). drop 1 l) h in
        let first : x ≡ y = same_number x y (a x (contains_head x xs)) (b y (contains_head y ys)) head in
        let others : xs ≡ ys = same_numbers xs ys (λ e c. a e (contains_tail x xs e c)) (λ e c. b e (contains_tail y ys e c)) rest in
        ap (λ (z : Numbered L). z ∷ xs) first ∙ ap (λ (l : List (Numbered L)). y ∷ l) others

    -- lists of items by number that differ have lists of items that differ
    pub lists_differ : (lists : List (List (Numbered L))) → ((xs : List (Numbered L)) → Contains lists xs → AreNumbered items xs) → AllDiffer lists → AllDiffer (map (items_by items) lists)
    lists_differ lists a differ i j x l at_i at_j =
        let d = some_of_map (items_by items) (slice_get lists i) x (sym (slice_get-map (items_by items) lists i) ∙ at_i) in
        let e = some_of_map (items_by items) (slice_get lists j) x (sym (slice_get-map (items_by items) lists j) ∙ at_j) in
        let same : e.0 ≡ d.0 = same_numbers e.0 d.0 (a e.0 (contains_at lists e.0 j e.1)) (a d.0 (contains_at lists d.0 i d.1)) (e.2 ∙ sym d.2) in
        differ i j d.0 l d.1 (e.1 ∙ ap Some same)

    -- items ascend if their numbers do
    pub items_ascend : (xs : List (Numbered L)) → AreNumbered items xs → Ordered (λ (d e : Numbered L). d.number < e.number) xs → Ascend (items_by items xs)
    items_ascend xs a rise i j x y l at_i at_j =
        let d = some_of_map (item_by items) (slice_get xs i) x (sym (slice_get-map (item_by items) xs i) ∙ at_i) in
        let e = some_of_map (item_by items) (slice_get xs j) y (sym (slice_get-map (item_by items) xs j) ∙ at_j) in
        let before : Precedes (item_by items d.0) (item_by items e.0) = numbers_precede d.0.number e.0.number (rise i j d.0 e.0 l d.1 e.1) (a e.0 (contains_at xs e.0 j e.1)) in
        subst (λ (z : Dotted L). Precedes x z) e.2 (subst (λ (z : Dotted L). Precedes z (item_by items e.0)) d.2 before)

-- ---- the symbol after the dot
module _ (g : Rules) (n : Numbers) (numbers : AreNumbers g n) where
  abbrev item : ℕ → Dotted Nil
  item = dotted_at n.items.items

  -- a number with an entry for the symbol after its dot is that of a dotted production
  pub within : (k : ℕ) (x : Option ℕ) → slice_get n.behind.items k ≡ Some x → k < length n.items.items
  within k x at =
      let l = slice_get_within n.behind.items k x at in
      let same = n.counted in
      omega arith

  is_behind : (k : ℕ) (x : Option ℕ) → slice_get n.behind.items k ≡ Some x → IsNumberBehind n.symbols.items (item k) x
  is_behind k x at = numbers.behind k (item k) x (stands_at n.items.items k (within k x at)) at

  -- the next number is that of a dotted production if there is a symbol after the dot
  pub next_within : (k x : ℕ) → slice_get n.behind.items k ≡ Some (Some x) → k + 1 < length n.items.items
  next_within k x at =
      let b = is_behind k (Some x) at in
      slice_get_within n.items.items (k + 1) (shifted (item k)) (numbers.next k (item k) (stands_at n.items.items k (within k (Some x) at)) (slice_get_within (item k).production.symbols (item k).index b.0 b.2))

  module _ {L : Type 0} (e : Numbered L) where
    -- the symbol after the dot is the one whose number is listed for the item
    pub behind_is : (x : ℕ) (s : Symbol) → slice_get n.behind.items e.number ≡ Some (Some x) → IsBehind s (item_by n.items.items e) ↔ (slice_get n.symbols.items x ≡ Some s)
    behind_is x s at =
        let b = is_behind e.number (Some x) at in
        (λ h. b.1 ∙ sym b.2 ∙ h, λ h. b.2 ∙ sym b.1 ∙ h)

    -- an item is finished if no number of a symbol is listed for it
    pub finished : slice_get n.behind.items e.number ≡ Some None → (item_by n.items.items e).index ≡ length (item_by n.items.items e).production.symbols
    finished at = is_behind e.number None at

    -- the next number is that of the item with its dot moved
    pub moved_next : (x : ℕ) → slice_get n.behind.items e.number ≡ Some (Some x) → item_by n.items.items (record { number = e.number + 1; lookahead = e.lookahead }) ≡ shifted (item_by n.items.items e)
    moved_next x at =
        let b = is_behind e.number (Some x) at in
        let i = item e.number in
        let there = numbers.next e.number i (stands_at n.items.items e.number (within e.number (Some x) at)) (slice_get_within i.production.symbols i.index b.0 b.2) in
        let with_lookahead : Dotted Nil → Dotted L = λ j. record { production = j.production; index = j.index; lookahead = e.lookahead } in
        ap with_lookahead (at_number n.items.items (e.number + 1) (shifted i) there)
