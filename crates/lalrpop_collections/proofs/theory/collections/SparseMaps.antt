-- Sparse sets: the facts on entries that places give, the changes of both, and the entries in
-- order.
use Rattle.std.proofs.Common.{◌≡◌, ◌≢◌, ℕ, zero, suc, ◌<◌, ◌≤◌, ◌⊎◌, inl, inr, List, [], ◌∷◌, ◌++◌, length, get_or, set, take, take_all, swap, refl, sym, ◌∙◌, ap, subst, arith, Some, IsPermutation}
use Rattle.std.specs.Prelude.{Contains, slice_get}
use Rattle.std.specs.List.Sorted.{IsNonDecreasingBy}
use Rattle.std.specs.Map.{keys_of}
use Rattle.std.proofs.lemmas.Bool.{cases_eq}
use Rattle.std.proofs.lemmas.List.{append-nil}
use Rattle.std.proofs.lemmas.Option.{slice_get_within, slice_get-map, get_or_from_slice_get}
use Rattle.std.proofs.lemmas.List.Edits.{Swapped, swapped_from_swap, length-swap}
use Rattle.std.proofs.lemmas.List.Sorted.{IsPermutation-keeps, IsPermutation-map}
use Rattle.lalrpop_collections.specs.Words.{AllDiffer, Ordered}
use Rattle.lalrpop_collections.proofs.theory.lists.Lists.{contains_place, some_of_map}
use Rattle.lalrpop_collections.proofs.theory.lists.Places.{same_some, push_cases, slice_get-longer, contains_at, differ_from_apart, apart_from_differ}
use Rattle.lalrpop_collections.proofs.theory.lists.Updates.{IsInserted, IsReplaced}
use Rattle.lalrpop_collections.specs.lists.SparseMaps.{AreEntryPlaces}

-- ---- a value put at a place
module _ {X : Type 0} (y : X) where
  put_here : (xs : List X) (i : ℕ) → i < length xs → slice_get (set xs i y) i ≡ Some y
  put_here [] i l = absurd (omega arith)
  put_here (x ∷ xs) zero l = refl
  put_here (x ∷ xs) (suc i) l = put_here xs i (omega arith)

  put_apart : (xs : List X) (i j : ℕ) → j ≢ i → slice_get (set xs i y) j ≡ slice_get xs j
  put_apart [] i j ne = refl
  put_apart (x ∷ xs) zero zero ne = absurd (ne refl)
  put_apart (x ∷ xs) zero (suc j) ne = refl
  put_apart (x ∷ xs) (suc i) zero ne = refl
  put_apart (x ∷ xs) (suc i) (suc j) ne = put_apart xs i j (λ e. ne (ap suc e))

module _ {V : Type 0} where
  -- ---- keys and entries
  key_of : (es : List (ℕ × V)) (i : ℕ) (e : ℕ × V) → slice_get es i ≡ Some e → slice_get (keys_of es) i ≡ Some e.0
  key_of [] i e h = cc
  key_of (x ∷ es) zero e h = ap (λ (y : ℕ × V). Some y.0) (same_some x e h)
  key_of (x ∷ es) (suc i) e h = key_of es i e h

  entry_of : (es : List (ℕ × V)) (i k : ℕ) → slice_get (keys_of es) i ≡ Some k → (v : V) × (slice_get es i ≡ Some (k, v))
  entry_of [] i k h = cc
  entry_of (x ∷ es) zero k h = (x.1, ap (λ (n : ℕ). Some (n, x.1)) (same_some x.0 k h))
  entry_of (x ∷ es) (suc i) k h = entry_of es i k h

  pub with_key : (es : List (ℕ × V)) (i k : ℕ) (e : ℕ × V) → slice_get es i ≡ Some e → e.0 ≡ k → (v : V) × (slice_get es i ≡ Some (k, v))
  with_key es i k e h same = (e.1, h ∙ ap (λ (n : ℕ). Some (n, e.1)) same)

  -- ---- the entry at a place gets another value
  put_replaced : (es : List (ℕ × V)) (i k : ℕ) (s w : V) → slice_get es i ≡ Some (k, s) → IsReplaced k s w es (set es i (k, w))
  put_replaced [] i k s w h = cc
  put_replaced (x ∷ es) zero k s w h = record { front = []; back = es; before = ap (λ (y : ℕ × V). y ∷ es) (same_some x (k, s) h); after = refl }
  put_replaced (x ∷ es) (suc i) k s w h =
      let r = put_replaced es i k s w h in
      record { front = x ∷ r.front; back = r.back; before = ap (λ (ys : List (ℕ × V)). x ∷ ys) r.before; after = ap (λ (ys : List (ℕ × V)). x ∷ ys) r.after }

  put_keys : (es : List (ℕ × V)) (i k : ℕ) (s w : V) → slice_get es i ≡ Some (k, s) → keys_of (set es i (k, w)) ≡ keys_of es
  put_keys [] i k s w h = refl
  put_keys (x ∷ es) zero k s w h = ap (λ (e : ℕ × V). e.0 ∷ keys_of es) (sym (same_some x (k, s) h))
  put_keys (x ∷ es) (suc i) k s w h = ap (λ (ks : List ℕ). x.0 ∷ ks) (put_keys es i k s w h)

  -- an entry gets a changed value
  pub changed_replaced : (es : List (ℕ × V)) (i k : ℕ) (s w : V) (e : ℕ × V) → slice_get es i ≡ Some (k, s) → e ≡ get_or es i e → IsReplaced k e.1 w es (set es i (e.0, w))
  changed_replaced es i k s w e h is = subst (λ (x : ℕ × V). IsReplaced k x.1 w es (set es i (x.0, w))) (sym (is ∙ get_or_from_slice_get es i (k, s) e h)) (put_replaced es i k s w h)

  pub pushed_inserted : (old new : List (ℕ × V)) (k : ℕ) (v : V) → new ≡ old ++ (k, v) ∷ [] → IsInserted k v old new
  pushed_inserted old new k v e = record { front = old; back = []; before = sym (append-nil old); after = e }

  -- ---- entries with their places
  module _ (places : List ℕ) (es : List (ℕ × V)) (placed : AreEntryPlaces places es) where
    pub placed_differ : AllDiffer (keys_of es)
    placed_differ i j k l at_i at_j =
        let a = entry_of es i k at_i in
        let b = entry_of es j k at_j in
        let same : i ≡ j = same_some i j (sym (placed i (k, a.0) a.1) ∙ placed j (k, b.0) b.1) in
        omega arith

    pub changed_differ : (i k : ℕ) (s w : V) (e : ℕ × V) → slice_get es i ≡ Some (k, s) → e ≡ get_or es i e → AllDiffer (keys_of (set es i (e.0, w)))
    changed_differ i k s w e h is =
        let same : (k, s) ≡ e = sym (is ∙ get_or_from_slice_get es i (k, s) e h) in
        subst (λ (x : ℕ × V). AllDiffer (keys_of (set es i (x.0, w)))) same (subst AllDiffer (sym (put_keys es i k s w h)) placed_differ)

    -- the place of the entry with the number
    its_place : (k : ℕ) → Contains (keys_of es) k → (i : ℕ) × (v : V) × (slice_get es i ≡ Some (k, v)) × (slice_get places k ≡ Some i)
    its_place k c =
        let p = contains_place (keys_of es) k c in
        let e = entry_of es p.0 k p.1 in
        (p.0, e.0, e.1, placed p.0 (k, e.0) e.1)

    pub none_past : (k : ℕ) → length places ≤ k → ¬ Contains (keys_of es) k
    none_past k l c = let p = its_place k c in let within : k < length places = slice_get_within places k p.0 p.3 in omega arith

    pub none_outside : (k i : ℕ) → slice_get places k ≡ Some i → length es ≤ i → ¬ Contains (keys_of es) k
    none_outside k i at l c =
        let p = its_place k c in
        let same : p.0 ≡ i = same_some p.0 i (sym p.3 ∙ at) in
        let within : p.0 < length es = slice_get_within es p.0 (k, p.1) p.2 in
        omega arith

    pub none_other : (k i : ℕ) (e : ℕ × V) → slice_get places k ≡ Some i → slice_get es i ≡ Some e → e.0 ≢ k → ¬ Contains (keys_of es) k
    none_other k i e at there other c =
        let p = its_place k c in
        let same : p.0 ≡ i = same_some p.0 i (sym p.3 ∙ at) in
        let one : (k, p.1) ≡ e = same_some (k, p.1) e (sym p.2 ∙ ap (slice_get es) same ∙ there) in
        other (sym (ap (λ (x : ℕ × V). x.0) one))

    -- the place of a number without entry may change
    pub placed_kept : (k n : ℕ) → ¬ Contains (keys_of es) k → AreEntryPlaces (set places k n) es
    placed_kept k n none i e h =
        let other : e.0 ≢ k = λ same. none (subst (Contains (keys_of es)) same (contains_at (keys_of es) e.0 i (key_of es i e h))) in
        put_apart n places k e.0 other ∙ placed i e h

    pub placed_more : (k n : ℕ) (v : V) → ¬ Contains (keys_of es) k → k < length places → n ≡ length es → AreEntryPlaces (set places k n) (es ++ (k, v) ∷ [])
    placed_more k n v none l is i e h = elim (push_cases es (k, v) i e h) [
      | inl old ↦ placed_kept k n none i e old
      | inr new ↦ subst (λ (x : ℕ × V). slice_get (set places k n) x.0 ≡ Some i) new.1 (put_here n places k l ∙ ap Some (is ∙ sym new.0))
    ]

    -- there may be places for more numbers
    pub placed_resized : (n : ℕ) → length places ≤ n → (more : List ℕ) → AreEntryPlaces (take n places ++ more) es
    placed_resized n l more = subst (λ (ps : List ℕ). AreEntryPlaces (ps ++ more) es) (sym (take_all n places l)) placed_longer
      where
        placed_longer : AreEntryPlaces (places ++ more) es
        placed_longer i e h = slice_get-longer places more e.0 i (placed i e h)

-- ---- numbers that differ, in another order
either_way : (ks : List ℕ) → AllDiffer ks → (i j d : ℕ) → i < length ks → j < length ks → get_or ks i d ≡ get_or ks j d → i ≡ j
either_way ks h i j d p q e =
    let not_below : i < j → ⊥ = λ less. apart_from_differ ks h i j d less q e in
    let not_above : j < i → ⊥ = λ less. apart_from_differ ks h j i d less p (sym e) in
    omega arith

-- a swap of a and b took the element at m from k
abbrev From : ℕ → ℕ → ℕ → ℕ → Type 0
From a b m k = ((m ≡ a) × (k ≡ b)) ⊎ (((m ≡ b) × (k ≡ a)) ⊎ ((m ≢ a) × (m ≢ b) × (k ≡ m)))

origin : (f g : ℕ → ℕ) (a b m : ℕ) → Swapped f g a b → (m ≡ a) ⊎ (m ≢ a) → (m ≡ b) ⊎ (m ≢ b) → (k : ℕ) × From a b m k × (g m ≡ f k)
origin f g a b m s (inl e) y = (b, inl (e, refl), ap g e ∙ s.0)
origin f g a b m s (inr n) (inl e) = (a, inr (inl (e, refl)), ap g e ∙ s.1)
origin f g a b m s (inr n) (inr o) = (m, inr (inr (n, o, refl)), s.2 m n o)

differ_swapped : (ks : List ℕ) (a b : ℕ) → a < length ks → b < length ks → AllDiffer ks → AllDiffer (swap ks a b)
differ_swapped ks a b p q h = differ_from_apart (swap ks a b) (λ i j d less within e.
    let len = length-swap ks a b in
    let s = swapped_from_swap ks (swap ks a b) a b d p q refl in
    let x = origin _ _ a b i s (cases_eq i a) (cases_eq i b) in
    let y = origin _ _ a b j s (cases_eq j a) (cases_eq j b) in
    let same = either_way ks h x.0 y.0 d (omega (arith, x.1)) (omega (arith, y.1)) (sym x.2 ∙ e ∙ y.2) in
    omega (arith, x.1, y.1))

module _ {V : Type 0} (old new : List (ℕ × V)) where
  differ_reordered : IsPermutation old new → AllDiffer (keys_of old) → AllDiffer (keys_of new)
  differ_reordered moved h = IsPermutation-keeps (keys_of old) AllDiffer h differ_swapped (keys_of new) (IsPermutation-map (λ (e : ℕ × V). e.0) old new moved)

  -- entries with different numbers, sorted by these
  pub rising : IsPermutation old new → AllDiffer (keys_of old) → IsNonDecreasingBy (λ (e : ℕ × V). e.0) new → Ordered (λ (d e : ℕ × V). d.0 < e.0) new
  rising moved h up i j x y l at_i at_j =
      let at_most : (get_or new i x).0 ≤ (get_or new j x).0 = up i j x (omega arith) (slice_get_within new j y at_j) in
      let first : (get_or new i x).0 ≡ x.0 = ap (λ (e : ℕ × V). e.0) (get_or_from_slice_get new i x x at_i) in
      let second : (get_or new j x).0 ≡ y.0 = ap (λ (e : ℕ × V). e.0) (get_or_from_slice_get new j y x at_j) in
      let apart : x.0 ≢ y.0 = λ same. differ_reordered moved h i j x.0 l (key_of new i x at_i) (key_of new j y at_j ∙ ap Some (sym same)) in
      omega arith

-- numbers that ascend differ
pub rising_differ : {V : Type 0} (entries : List (ℕ × V)) → Ordered (λ (d e : ℕ × V). d.0 < e.0) entries → AllDiffer (keys_of entries)
rising_differ {V} entries rise i j k l at_i at_j =
    let f : ℕ × V → ℕ = λ (e : ℕ × V). e.0 in
    let a = some_of_map f (slice_get entries i) k (sym (slice_get-map f entries i) ∙ at_i) in
    let b = some_of_map f (slice_get entries j) k (sym (slice_get-map f entries j) ∙ at_j) in
    let below : a.0.0 < b.0.0 = rise i j a.0 b.0 l a.1 b.1 in
    omega (arith, below, a.2, b.2)
