-- The beginning of a construction: FIRST of suffixes, and the first kernel, by numbers of sets.
use Rattle.std.proofs.Common.{◌≡◌, ◌∙◌, ◌+◌, ◌<◌, ◌≤◌, ℕ, inl, inr, List, [], ◌∷◌, ◌++◌, length, get_or, map, refl, sym, ap, subst, take, arith, Option, Some, ⊎_elim}
use Rattle.std.specs.Prelude.{Contains, slice_get}
use Rattle.std.proofs.lemmas.Bool.{cases_lt}
use Rattle.std.proofs.lemmas.List.{map-append, take_more}
use Rattle.std.proofs.lemmas.Option.{slice_get_within}
use Rattle.lalrpop_base.specs.Words.{AddsOnce, AreItems, AreNumbered, Begins, Bits, Dotted, IsClosureBy, Kernels, item_at_start, items_by, kernels_by}
use Rattle.lalrpop_collections.proofs.theory.lists.Members.{Contains-none, contains-cons}
use Rattle.lalrpop_collections.proofs.theory.lists.Places.{same_some, slice_get-longer, slice_get-push_at}
use Rattle.lalrpop_construction.proofs.theory.construction.NumberedBuilding.{Building-begun, same_kernels}
use Rattle.lalrpop_construction.proofs.theory.construction.NumberedEdges.{only_numbered}
use Rattle.lalrpop_construction.specs.Words.{Construction}
use Rattle.lalrpop_numbers.specs.declared.numbers.Numbers.{Numbers}
use Rattle.lalrpop_numbers.specs.declared.numbers.numbered.Numbered.{Numbered}
use Rattle.lalrpop_numbers.specs.declared.numbers.suffixes.Suffix.{Suffix}
use Rattle.lalrpop_states.specs.closures.Closure.{itself}
use Rattle.canonical_by_number.specs.TokenSets.{KeepsNumbers, pair_of}
use Rattle.canonical_by_number.specs.Closures.{AreFirsts, ArePackedIn, IsNumberAt, LetsPass, kernel_in, unpacked}
use Rattle.canonical_by_number.specs.Kernels.{AreKernelsIn, kernels_in}
use Rattle.canonical_by_number.specs.States.{AreMadeIn}
use Rattle.canonical_by_number.proofs.Closures.{kernel_kept, packed_within}
use Rattle.canonical_by_number.proofs.PackedMoves.{more_packed}
use Rattle.canonical_by_number.proofs.Packing.{second_of_pair, unpacked_pair}
use Rattle.canonical_by_number.proofs.TokenSets.{set_is}

-- ---- FIRST of suffixes
module _ (suffixes : List (Option Suffix)) where
  -- the numbers of the first i suffixes are listed
  abbrev pub AreUpTo : List Bits → List ℕ → ℕ → Type 0
  AreUpTo sets firsts i = (k : ℕ) (suffix : Suffix) → k < i → slice_get suffixes k ≡ Some (Some suffix) → IsNumberAt sets firsts k suffix.first

  pub Firsts-more : (now next : List Bits) → KeepsNumbers now next → (old new : List ℕ) (number i : ℕ) → new ≡ old ++ number ∷ [] → length old ≡ i → (x : Option Suffix) → slice_get suffixes i ≡ Some x → ((rest : Suffix) → x ≡ Some rest → slice_get next number ≡ Some rest.first) → AreUpTo now old i → AreUpTo next new (i + 1)
  Firsts-more now next kept old new number i push counted x at says before k s l h =
      ⊎_elim
      (λ less.
      let a = before k s less h in
      record { number = a.number; there = subst (λ (xs : List ℕ). slice_get xs k ≡ Some a.number) (sym push) (slice_get-longer old (number ∷ []) k a.number a.there); is = kept a.number s.first a.is })
      (λ last.
      let same : k ≡ i = omega (arith, l, last) in
      let here : slice_get new i ≡ Some number = subst (λ (xs : List ℕ). slice_get xs i ≡ Some number) (sym push) (subst (λ (j : ℕ). slice_get (old ++ number ∷ []) j ≡ Some number) counted (slice_get-push_at old number)) in
      let is : x ≡ Some s = same_some x (Some s) (sym at ∙ subst (λ (j : ℕ). slice_get suffixes j ≡ Some (Some s)) same h) in
      record { number = number; there = subst (λ (j : ℕ). slice_get new j ≡ Some number) (sym same) here; is = says s is })
      (cases_lt k i)

pub Firsts-all : (n : Numbers) (sets : List Bits) (firsts : List ℕ) (i : ℕ) → length n.suffixes.items ≤ i → length firsts ≡ i → AreUpTo n.suffixes.items sets firsts i → AreFirsts n sets firsts
Firsts-all n sets firsts i end counted upto = record {
  counted = omega (arith, end, counted);
  each = λ k suffix at. let l = slice_get_within n.suffixes.items k (Some suffix) at in upto k suffix (omega (arith, l, end)) at;
}

-- ---- items are packed
module _ (now next : List Bits) (kept : KeepsNumbers now next) (few : length next ≤ 4294967296) (items : List (Numbered Bits)) (i : ℕ) (item : Numbered Bits) (within : i < length items) (read : item ≡ get_or items i item) (tokens : ℕ) (at : slice_get next tokens ≡ Some item.lookahead) (packed : List ℕ) (are : ArePackedIn now packed) (is : kernel_in now packed ≡ take i items) where
  small : tokens < 4294967296
  small = let l = slice_get_within next tokens item.lookahead at in omega (arith, l, few)

  abbrev new_item : ℕ
  new_item = pair_of item.number tokens

  pub Packed-more : ArePackedIn next (packed ++ new_item ∷ [])
  Packed-more =
      let l = slice_get_within next tokens item.lookahead at in
      more_packed next packed new_item (packed_within now next kept packed are) (subst (λ (k : ℕ). k < length next) (sym (second_of_pair item.number tokens small)) l)

  pub Items-more : kernel_in next (packed ++ new_item ∷ []) ≡ take (i + 1) items
  Items-more =
      let with_set : Bits → Numbered Bits = λ s. record { number = item.number; lookahead = s } in
      let one : unpacked next new_item ≡ item = unpacked_pair next item.number tokens small ∙ ap with_set (set_is next tokens item.lookahead at) in
      map-append (unpacked next) packed (new_item ∷ [])
      ∙ ap (λ (is : List (Numbered Bits)). is ++ unpacked next new_item ∷ []) (kernel_kept now next kept packed are ∙ is)
      ∙ ap (λ (e : Numbered Bits). take i items ++ e ∷ []) (one ∙ read)
      ∙ sym (take_more items i item within)

-- ---- the first kernel
-- a value that is added to no values is the only one
pub only_added : {X : Type 0} (old new : List X) (x : X) → old ≡ [] → AddsOnce old new x → new ≡ x ∷ []
only_added {X} old new x none adds = adds.fresh (λ c. Contains-none x (subst (λ (xs : List X). Contains xs x) none c)) ∙ ap (λ (xs : List X). xs ++ x ∷ []) none

module _ (c : Construction Bits) (n : Numbers) (sets : List Bits) (kernels : Kernels (List ℕ)) (packed : List ℕ) (start : List (Numbered Bits)) (list : kernels.list ≡ packed ∷ []) (handed : kernels.handed ≡ 0) (are : ArePackedIn sets packed) (is : kernel_in sets packed ≡ start) (known : AreNumbered n.items.items start) where
  lists : map (kernel_in sets) kernels.list ≡ start ∷ []
  lists = ap (map (kernel_in sets)) list ∙ ap (λ (k : List (Numbered Bits)). k ∷ []) is

  pub Begun-kernels : AreKernelsIn n sets kernels.list
  Begun-kernels = record {
    known = only_numbered n.items.items start (map (kernel_in sets) kernels.list) lists known;
    packed = λ k d. elim (contains-cons packed [] k (subst (λ (ks : List (List ℕ)). Contains ks k) list d)) [ inl same ↦ subst (ArePackedIn sets) same are | inr none ↦ absurd (Contains-none k none) ];
  }

  pub Begun-made : items_by n.items.items start ≡ map (item_at_start c.lookahead) c.first → AreItems c.rules (items_by n.items.items start) → AreMadeIn c n sets kernels []
  Begun-made first of =
      let begun : List (Dotted Bits) = map (item_at_start c.lookahead) c.first in
      record {
        building = Building-begun itself (IsClosureBy itself Begins LetsPass c.rules) c.rules begun n.items.items (kernels_in sets kernels) [] (same_kernels (kernels_by n.items.items (kernels_in sets kernels)) (begun ∷ []) 0 (ap (map (items_by n.items.items)) lists ∙ ap (λ (k : List (Dotted Bits)). k ∷ []) first) handed) refl (subst (AreItems c.rules) first of);
        numbered = only_numbered n.items.items start (map (kernel_in sets) kernels.list) lists known;
      }
