-- Lists of items with the same dotted productions, and numbers of merged states.
use Rattle.std.proofs.Common.{◌≡◌, ℕ, zero, suc, ◌-◌, ◌<◌, List, length, map, refl, sym, ◌∙◌, ap, subst, arith, Some, option_map}
use Rattle.std.specs.Prelude.{Contains, slice_get, unwrap_or}
use Rattle.std.proofs.lemmas.Option.{slice_get_within, slice_get-map}
use Rattle.lalrpop_base.specs.Words.{Bits, HasItem, IsShiftedFrom, IsCoherentEdge, dots, Ordered, Dotted, Precedes, Ascend, with_dot, number_in}
use Rattle.lalrpop_tables.specs.Words.{dots_in, IsCollapsed}
use Rattle.lalrpop_tables.proofs.Types.{Production, State, Symbol}
use Rattle.lalrpop_collections.proofs.theory.lists.Lists.{some_of_map}
use Rattle.lalrpop_collections.proofs.theory.lists.Ascending.{ascending_same}
use Rattle.lalrpop_states.specs.states.Items.{dotted_of}
use Rattle.lalrpop_states.proofs.theory.grammars.AscendingItems.{precedes_asymmetric}
use Rattle.lalrpop_collections.proofs.theory.lists.Places.{filled}

-- ---- items with the same dotted productions
module _ {L : Type 0} where
  -- an item of one list has one at its place in the other, with the same dotted production
  pub item_at : (xs ys : List (Dotted L)) → dots xs ≡ dots ys → (k : ℕ) (i : Dotted L) → slice_get xs k ≡ Some i → (j : Dotted L) × (slice_get ys k ≡ Some j) × (j.production ≡ i.production) × (j.index ≡ i.index)
  item_at xs ys same k i at =
      let here : slice_get (map dotted_of ys) k ≡ Some (i.production, i.index) = ap (λ (ds : List (Production × ℕ)). slice_get ds k) (sym same) ∙ slice_get-map dotted_of xs k ∙ ap (option_map dotted_of) at in
      let j = some_of_map dotted_of (slice_get ys k) (i.production, i.index) (sym (slice_get-map dotted_of ys k) ∙ here) in
      (j.0, j.1, ap (λ (d : Production × ℕ). d.0) j.2, ap (λ (d : Production × ℕ). d.1) j.2)

  pub has_item_over : (xs ys : List (Dotted L)) → dots xs ≡ dots ys → (p : Production) (n : ℕ) → HasItem xs p n → HasItem ys p n
  has_item_over xs ys same p n (k, i, at, is) = let j = item_at xs ys same k i at in (k, j.0, j.1, record { same = j.2 ∙ is.same; dot = j.3 ∙ is.dot })

  shifted_over : (xs ys : List (Dotted L)) (x : Symbol) (i j : Dotted L) → dots xs ≡ dots ys → j.production ≡ i.production → j.index ≡ i.index → IsShiftedFrom xs x i → IsShiftedFrom ys x j
  shifted_over xs ys x i j same p n s = record {
    over = subst (λ (q : Production). slice_get q.symbols (j.index - 1) ≡ Some x) (sym p) (subst (λ (m : ℕ). slice_get i.production.symbols (m - 1) ≡ Some x) (sym n) s.over);
    origin = subst (λ (q : Production). HasItem ys q (j.index - 1)) (sym p) (subst (λ (m : ℕ). HasItem ys i.production (m - 1)) (sym n) (has_item_over xs ys same i.production (i.index - 1) s.origin));
  }

  -- an edge stays coherent if the dotted productions at its ends stay
  pub edge_over : (xs ys cs ds : List (Dotted L)) (x : Symbol) → dots xs ≡ dots ys → dots cs ≡ dots ds → IsCoherentEdge xs x cs → IsCoherentEdge ys x ds
  edge_over xs ys cs ds x source target came k j at moved =
      let i = item_at ds cs (sym target) k j at in
      shifted_over xs ys x i.0 j source (sym i.2) (sym i.3) (came k i.0 i.1 (let e = i.3 in omega arith))

-- ---- two lists of rising dotted productions are equal if they have the same members
abbrev StandsBefore : Production × ℕ → Production × ℕ → Type 0
StandsBefore d e = Precedes (with_dot d.0 d.1) (with_dot e.0 e.1)

dots_ascend : (items : List (Dotted Bits)) → Ascend items → Ordered StandsBefore (dots items)
dots_ascend items ascend i j d e l at_i at_j =
    let a = some_of_map dotted_of (slice_get items i) d (sym (slice_get-map dotted_of items i) ∙ at_i) in
    let b = some_of_map dotted_of (slice_get items j) e (sym (slice_get-map dotted_of items j) ∙ at_j) in
    let before : StandsBefore (dotted_of a.0) (dotted_of b.0) = ascend i j a.0 b.0 l a.1 b.1 in
    subst (λ (x : Production × ℕ). StandsBefore d x) b.2 (subst (λ (x : Production × ℕ). StandsBefore x (dotted_of b.0)) a.2 before)

pub same_dots : (xs ys : List (Dotted Bits)) → Ascend xs → Ascend ys → ((d : Production × ℕ) → Contains (dots xs) d → Contains (dots ys) d) → ((d : Production × ℕ) → Contains (dots ys) d → Contains (dots xs) d) → dots xs ≡ dots ys
same_dots xs ys a b to from = ascending_same StandsBefore (λ d e. precedes_asymmetric (with_dot d.0 d.1) (with_dot e.0 e.1)) (dots xs) (dots ys) (dots_ascend xs a) (dots_ascend ys b) to from

-- ---- the numbers of merged states
module _ (before after : List (State Bits)) (c : IsCollapsed before after) where
  abbrev pub group : ℕ → ℕ
  group = number_in c.numbers

  -- a state has a number below the count of the merged ones
  numbered : (n : ℕ) → n < length before → (m : ℕ) × (slice_get c.numbers n ≡ Some m) × (group n ≡ m)
  numbered n within =
      let counted = c.counted in
      let m = filled c.numbers n (omega arith) in
      (m.0, m.1, ap (λ o. unwrap_or o n) m.1)

  -- the merged state with that number has the same dotted productions
  pub merged_of : (n : ℕ) (s : State Bits) → slice_get before n ≡ Some s → (to : State Bits) × (slice_get after (group n) ≡ Some to) × (dots_in s ≡ dots_in to)
  merged_of n s at =
      let m = numbered n (slice_get_within before n s at) in
      let below = c.below n m.0 m.1 in
      let same = m.2 in
      let to = filled after (group n) (omega arith) in
      (to.0, to.1, (c.each (group n) to.0 to.1).listed s (n, at, refl))

  first_at : (m : ℕ) → slice_get c.numbers 0 ≡ Some m → m ≡ 0
  first_at zero at = refl
  first_at (suc m) at = let k = c.first 0 (suc m) 0 at (omega arith) in let l = k.1 in absurd (omega arith)

  -- state 0 has the number 0
  pub first_group : 0 < length before → group 0 ≡ 0
  first_group some = let m = numbered 0 some in m.2 ∙ first_at m.0 m.1

  pub Collapsed-some : 0 < length before → 0 < length after
  Collapsed-some some = let m = numbered 0 some in let below = c.below 0 m.0 m.1 in omega arith
