-- The kernels to which symbols lead, with items that are packed in numbers.
use Rattle.std.proofs.Common.{◌≡◌, ◌∙◌, ◌+◌, ◌%◌, ◌<◌, ◌≤◌, ◌⊎◌, ℕ, inl, inr, List, [], ◌∷◌, ◌++◌, length, map, refl, sym, ap, subst, arith, Option, Some, None, option_map, append_assoc}
use Rattle.std.specs.Prelude.{Contains, slice_get}
use Rattle.std.specs.Map.{keys_of}
use Rattle.std.proofs.lemmas.List.{map-append}
use Rattle.std.proofs.lemmas.Bool.{cases_eq}
use Rattle.std.proofs.lemmas.List.Elements.{Contains-append_right, Contains-push_cases}
use Rattle.std.proofs.lemmas.Option.{slice_get-map, slice_get_within}
use Rattle.lalrpop_base.specs.Words.{AddsOnce, AllDiffer, AreGroupsOf, AreMoves, AreNumbered, AreNumbers, Ascend, Bits, Dotted, IsMoveAdded, IsPushedAt, Rules, dotted_at, groups_by, item_by, items_by, shifted}
use Rattle.lalrpop_collections.specs.lists.Entries.IsPushedAt.{fresh, known}
use Rattle.lalrpop_collections.proofs.theory.lists.Members.{contains_head, Contains-none}
use Rattle.lalrpop_collections.proofs.theory.lists.Places.{around, at_midst, midst}
use Rattle.lalrpop_construction.proofs.theory.construction.Moves.{Moves-more, Moves-none}
use Rattle.lalrpop_construction.proofs.theory.construction.NumberedEdges.{all_known, differ_by, either_by}
use Rattle.lalrpop_construction.proofs.theory.construction.NumberedMoves.{Added-none, Added-over}
use Rattle.lalrpop_construction.proofs.theory.numbers.Numbers.{stands_at}
use Rattle.lalrpop_numbers.proofs.theory.construction.Contained.{added_or_not, decided_list}
use Rattle.lalrpop_numbers.specs.declared.numbers.Numbers.{Numbers}
use Rattle.lalrpop_numbers.specs.declared.numbers.numbered.Numbered.{Numbered}
use Rattle.lalrpop_states.specs.declared.lookahead.nil.Nil.{Nil}
use Rattle.canonical_by_number.specs.TokenSets.{pair_of, set_at}
use Rattle.canonical_by_number.specs.Closures.{ArePackedIn, entry_in, kernel_in, unpacked}
use Rattle.canonical_by_number.specs.Kernels.{AreKernelsIn, AreMovesIn, ArePackedGroups, groups_in}
use Rattle.canonical_by_number.proofs.Packing.{kernels_differ, second_of_pair, unpacked_pair}

module _ (sets : List Bits) where
  abbrev pub group_in : ℕ × List ℕ → ℕ × List (Numbered Bits)
  group_in h = (h.0, kernel_in sets h.1)

  pub keys_in : (groups : List (ℕ × List ℕ)) → keys_of (groups_in sets groups) ≡ keys_of groups
  keys_in [] = refl
  keys_in (h ∷ hs) = ap (λ (ks : List ℕ). h.0 ∷ ks) (keys_in hs)

  pub keys_differ : (groups : List (ℕ × List ℕ)) → AllDiffer (keys_of groups) → AllDiffer (keys_of (groups_in sets groups))
  keys_differ groups differ = subst AllDiffer (sym (keys_in groups)) differ

  midst_in : (front back : List (ℕ × List ℕ)) (h : ℕ × List ℕ) (all : List (ℕ × List ℕ)) → all ≡ front ++ h ∷ back → groups_in sets all ≡ groups_in sets front ++ group_in h ∷ groups_in sets back
  midst_in front back h all e = ap (groups_in sets) e ∙ map-append group_in front (h ∷ back)

  -- a packed item is pushed, and so is the item
  pushed_in : (x e : ℕ) (old new : List (ℕ × List ℕ)) → IsPushedAt x e old new → IsPushedAt x (unpacked sets e) (groups_in sets old) (groups_in sets new)
  pushed_in x e old new (fresh front back before after) = fresh (groups_in sets front) (groups_in sets back) (ap (groups_in sets) before ∙ map-append group_in front back) (midst_in front back (x, e ∷ []) new after)
  pushed_in x e old new (known front back vs before after) = known (groups_in sets front) (groups_in sets back) (kernel_in sets vs) (midst_in front back (x, vs) old before)
      (midst_in front back (x, vs ++ e ∷ []) new after ∙ ap (λ (is : List (Numbered Bits)). groups_in sets front ++ (x, is) ∷ groups_in sets back) (map-append (unpacked sets) vs (e ∷ [])))

  pub more_packed : (vs : List ℕ) (e : ℕ) → ArePackedIn sets vs → e % 4294967296 < length sets → ArePackedIn sets (vs ++ e ∷ [])
  more_packed vs e packed l d c = elim (Contains-push_cases vs e d c) [ inl had ↦ packed d had | inr same ↦ subst (λ (k : ℕ). k % 4294967296 < length sets) same l ]

  none_packed : ArePackedIn sets []
  none_packed d c = absurd (Contains-none d c)

  packed_pushed : (x e : ℕ) → e % 4294967296 < length sets → (old new : List (ℕ × List ℕ)) → IsPushedAt x e old new → ArePackedGroups sets old → ArePackedGroups sets new
  packed_pushed x e l old new (fresh front back before after) packed h c = elim (midst front back (x, e ∷ []) h (subst (λ (gs : List (ℕ × List ℕ)). Contains gs h) after c)) [
    | inl same ↦ subst (λ (k : ℕ × List ℕ). ArePackedIn sets k.1) same (more_packed [] e none_packed l)
    | inr out ↦ packed h (subst (λ (gs : List (ℕ × List ℕ)). Contains gs h) (sym before) out)
  ]
  packed_pushed x e l old new (known front back vs before after) packed h c = elim (midst front back (x, vs ++ e ∷ []) h (subst (λ (gs : List (ℕ × List ℕ)). Contains gs h) after c)) [
    | inl same ↦ subst (λ (k : ℕ × List ℕ). ArePackedIn sets k.1) same (more_packed vs e (packed (x, vs) (subst (λ (gs : List (ℕ × List ℕ)). Contains gs (x, vs)) (sym before) (at_midst front back (x, vs)))) l)
    | inr out ↦ packed h (subst (λ (gs : List (ℕ × List ℕ)). Contains gs h) (sym before) (around front back (x, vs) h out))
  ]

  -- no items lead nowhere
  pub Moves-begin : (n : Numbers) → AreMovesIn n sets [] []
  Moves-begin n = record { known = λ h c. absurd (Contains-none h c); packed = λ h c. absurd (Contains-none h c); moves = Moves-none }

  module _ (g : Rules) (n : Numbers) (numbers : AreNumbers g n) (items : List (Numbered Bits)) (item tokens : ℕ) (known_item : item < length n.items.items) where
    abbrev here : Numbered Bits
    here = entry_in sets (item, tokens)

    abbrev Added : List (ℕ × List ℕ) → List (ℕ × List ℕ) → Type 0
    Added old new = IsMoveAdded (item_by n.items.items here) (groups_by n (groups_in sets old)) (groups_by n (groups_in sets new))

    added : (old new : List (ℕ × List ℕ)) → AreMovesIn n sets items old → AreGroupsOf n (groups_in sets new) → ArePackedGroups sets new → Added old new → AreMovesIn n sets (items ++ here ∷ []) new
    added old new before groups packed more = record {
      known = groups;
      packed = packed;
      moves = subst (λ (is : List (Dotted Bits)). AreMoves is (groups_by n (groups_in sets new))) (sym (map-append (item_by n.items.items) items (here ∷ [])))
          (Moves-more (items_by n.items.items items) (item_by n.items.items here) (groups_by n (groups_in sets old)) (groups_by n (groups_in sets new)) before.moves more);
    }

    -- an item whose dot moves over a symbol
    pub Move-over : tokens < length sets → length sets ≤ 4294967296 → (x : ℕ) (old new : List (ℕ × List ℕ)) → slice_get n.behind.items item ≡ Some (Some x) → IsPushedAt x (pair_of (item + 1) tokens) old new → AllDiffer (keys_of new) → AreMovesIn n sets items old → AreMovesIn n sets (items ++ here ∷ []) new
    Move-over l few x old new at pushed differ before =
        let small : tokens < 4294967296 = omega arith in
        let is : unpacked sets (pair_of (item + 1) tokens) ≡ record { number = item + 1; lookahead = set_at sets tokens } = unpacked_pair sets (item + 1) tokens small in
        let pushed_item : IsPushedAt x (record { number = item + 1; lookahead = set_at sets tokens }) (groups_in sets old) (groups_in sets new) = subst (λ (e : Numbered Bits). IsPushedAt x e (groups_in sets old) (groups_in sets new)) is (pushed_in x (pair_of (item + 1) tokens) old new pushed) in
        let more = Added-over g n numbers here known_item x (groups_in sets old) (groups_in sets new) at pushed_item (subst AllDiffer (sym (keys_in new)) differ) before.known in
        let within : pair_of (item + 1) tokens % 4294967296 < length sets = subst (λ (k : ℕ). k < length sets) (sym (second_of_pair (item + 1) tokens small)) l in
        added old new before more.0 (packed_pushed x (pair_of (item + 1) tokens) within old new pushed before.packed) more.1

    -- an item whose dot is at the end
    pub Move-none : (groups : List (ℕ × List ℕ)) → slice_get n.behind.items item ≡ Some None → AreMovesIn n sets items groups → AreMovesIn n sets (items ++ here ∷ []) groups
    Move-none groups at before = added groups groups before before.known before.packed (Added-none g n numbers here known_item (groups_in sets groups) at)

-- an item whose dot can move is followed by the item with the dot moved
pub next_known : (g : Rules) (n : Numbers) → AreNumbers g n → (item x : ℕ) → item < length n.items.items → slice_get n.behind.items item ≡ Some (Some x) → item + 1 < length n.items.items
next_known g n numbers item x l at =
    let place : Dotted Nil = dotted_at n.items.items item in
    let there = stands_at n.items.items item l in
    let b = numbers.behind item place (Some x) there at in
    let short : place.index < length place.production.symbols = slice_get_within place.production.symbols place.index b.0 b.2 in
    slice_get_within n.items.items (item + 1) (shifted place) (numbers.next item place there short)

-- ---- one more kernel
module _ (n : Numbers) (sets : List Bits) (differ : AllDiffer sets) (ascend : Ascend n.items.items) (old new : List (List ℕ)) (kernel : List ℕ) (before : AreKernelsIn n sets old) (packed : ArePackedIn sets kernel) (numbered : AreNumbered n.items.items (kernel_in sets kernel)) (added : AddsOnce old new kernel) where
  -- the kernel was added, or it was there
  pub either : (new ≡ old) ⊎ (new ≡ old ++ kernel ∷ [])
  either = added_or_not (decided_list cases_eq) old new kernel added

  -- the same is true of the kernel of items by number
  either_in : (map (kernel_in sets) new ≡ map (kernel_in sets) old) ⊎ (map (kernel_in sets) new ≡ map (kernel_in sets) old ++ kernel_in sets kernel ∷ [])
  either_in = elim either [
    | inl same ↦ inl (ap (map (kernel_in sets)) same)
    | inr more ↦ inr (ap (map (kernel_in sets)) more ∙ map-append (kernel_in sets) old (kernel ∷ []))
  ]

  -- and of the kernel of items
  pub either_items : (map (items_by n.items.items) (map (kernel_in sets) new) ≡ map (items_by n.items.items) (map (kernel_in sets) old)) ⊎ (map (items_by n.items.items) (map (kernel_in sets) new) ≡ map (items_by n.items.items) (map (kernel_in sets) old) ++ items_by n.items.items (kernel_in sets kernel) ∷ [])
  either_items = either_by n.items.items (map (kernel_in sets) old) (map (kernel_in sets) new) (kernel_in sets kernel) either_in

  pub Kernels-more : AreKernelsIn n sets new
  Kernels-more = record {
    known = all_known n.items.items (map (kernel_in sets) old) (map (kernel_in sets) new) (kernel_in sets kernel) before.known numbered either_in;
    packed = λ k c. elim either [
      | inl same ↦ before.packed k (subst (λ (ks : List (List ℕ)). Contains ks k) same c)
      | inr more ↦ elim (Contains-push_cases old kernel k (subst (λ (ks : List (List ℕ)). Contains ks k) more c)) [
        | inl had ↦ before.packed k had
        | inr is ↦ subst (ArePackedIn sets) is packed
      ]
    ];
  }

  -- the kernels of items differ
  pub items_differ : AllDiffer new → AllDiffer (map (items_by n.items.items) (map (kernel_in sets) new))
  items_differ each = differ_by n.items.items ascend (map (kernel_in sets) new) Kernels-more.known (kernels_differ sets differ new Kernels-more.packed each)

-- the kernel with a number, as items by number
pub kernel_there : (sets : List Bits) (list : List (List ℕ)) (k : ℕ) (kernel : List ℕ) → slice_get list k ≡ Some kernel → slice_get (map (kernel_in sets) list) k ≡ Some (kernel_in sets kernel)
kernel_there sets list k kernel at = slice_get-map (kernel_in sets) list k ∙ ap (λ (o : Option (List ℕ)). option_map (kernel_in sets) o) at

-- ---- the next group of those that are left
module _ (groups first left rest : List (ℕ × List ℕ)) (group : ℕ × List ℕ) (split : first ++ left ≡ groups) (next : left ≡ group ∷ rest) where
  pub taken : (first ++ group ∷ []) ++ rest ≡ groups
  taken = append_assoc first (group ∷ []) rest ∙ ap (λ (xs : List (ℕ × List ℕ)). first ++ xs) (sym next) ∙ split

  pub taken_among : Contains groups group
  taken_among = subst (λ (gs : List (ℕ × List ℕ)). Contains gs group) (ap (λ (xs : List (ℕ × List ℕ)). first ++ xs) (sym next) ∙ split) (Contains-append_right first (group ∷ rest) group (contains_head group rest))
