-- The entries of a table that has all items of a closure are the closure, with sets by number.
use Rattle.std.proofs.Common.{◌≡◌, ◌∙◌, ◌<◌, ℕ, inl, inr, List, [], ◌∷◌, ◌++◌, map, refl, sym, ap, subst, IsPermutation}
use Rattle.std.specs.Prelude.{Contains, slice_get}
use Rattle.std.specs.Map.{keys_of}
use Rattle.std.proofs.lemmas.List.Elements.{Contains-append_cases, Contains-append_left, Contains-append_right}
use Rattle.std.proofs.lemmas.List.Sorted.{Contains-permutation, IsPermutation-map, IsPermutation-sym}
use Rattle.std.proofs.lemmas.Option.{slice_get-map}
use Rattle.lalrpop_base.specs.Words.{AreItems, AreNumbered, AreNumbers, Begins, Bits, Dotted, IsClosureBy, Ordered, Rules, items_by, meant, readings}
use Rattle.lalrpop_collections.specs.lists.Entries.{Gathers}
use Rattle.lalrpop_collections.proofs.theory.lists.Bounded.{in_flat_map}
use Rattle.lalrpop_collections.proofs.theory.lists.Gathering.{Gathers-none}
use Rattle.lalrpop_collections.proofs.theory.lists.Lists.{some_of_map}
use Rattle.lalrpop_collections.proofs.theory.lists.Members.{contains_map, of_flat, place}
use Rattle.lalrpop_collections.proofs.theory.lists.Places.{contains_at}
use Rattle.lalrpop_construction.specs.Words.{IsPropagation, numbered_of, parts_in, unfolded, vec_items_at, with_tokens}
use Rattle.lalrpop_construction.proofs.theory.closures.Rising.{Gathers-rising, numbers_rise}
use Rattle.lalrpop_construction.proofs.theory.closures.Unfolded.{Closure-of}
use Rattle.lalrpop_numbers.specs.declared.numbers.Numbers.{Numbers}
use Rattle.lalrpop_numbers.specs.declared.numbers.numbered.Numbered.{Numbered}
use Rattle.lalrpop_states.specs.closures.Closure.{itself}
use Rattle.canonical_by_number.specs.TokenSets.{AreSetsIn, KeepsNumbers, set_at}
use Rattle.canonical_by_number.specs.Closures.{ArePackedIn, GathersNumbers, IsNumberedClosure, IsNumberedPropagation, LetsPass, entries_in, entry_in, kernel_in}
use Rattle.canonical_by_number.proofs.Closures.{kernel_kept, meant_itself, readings_itself, readings_kept}

module _ (meaning : ℕ → Bits) (list : List (ℕ × ℕ)) where
  abbrev read : ℕ × ℕ → ℕ × Bits
  read e = (e.0, meaning e.1)

  -- the numbers rise, whatever the values mean
  pub readings_rise : Ordered (λ (d e : ℕ × ℕ). d.0 < e.0) list → Ordered (λ (d e : ℕ × Bits). d.0 < e.0) (readings meaning list)
  readings_rise rise i j x y l at_i at_j =
      let a = some_of_map read (slice_get list i) x (sym (slice_get-map read list i) ∙ at_i) in
      let b = some_of_map read (slice_get list j) y (sym (slice_get-map read list j) ∙ at_j) in
      subst (λ (z : ℕ × Bits). x.0 < z.0) b.2 (subst (λ (z : ℕ × Bits). z.0 < (read b.0).0) a.2 (rise i j a.0 b.0 l a.1 b.1))

-- the entries are the items, with their sets
pub entries_are : (sets : List Bits) (list : List (ℕ × ℕ)) → map numbered_of (readings (set_at sets) list) ≡ entries_in sets list
entries_are sets [] = refl
entries_are sets (e ∷ es) = ap (λ (is : List (Numbered Bits)). entry_in sets e ∷ is) (entries_are sets es)

-- ---- the same entries in another order
Contains-keys : (list other : List (ℕ × Bits)) → ((e : ℕ × Bits) → Contains list e → Contains other e) → (k : ℕ) → Contains (keys_of list) k → Contains (keys_of other) k
Contains-keys list other more k c =
    let p = place (keys_of list) k c in
    let key : ℕ × Bits → ℕ = λ e. e.0 in
    let e = some_of_map key (slice_get list p.0) k (sym (slice_get-map key list p.0) ∙ p.2) in
    subst (Contains (keys_of other)) e.2 (contains_map key other e.0 (more e.0 (contains_at list e.0 p.0 e.1)))

Gathers-same : (list other table : List (ℕ × Bits)) → ((e : ℕ × Bits) → Contains list e → Contains other e) → ((e : ℕ × Bits) → Contains other e → Contains list e) → Gathers list table → Gathers other table
Gathers-same list other table more less h = record {
  found = λ e c. h.found e (less e c);
  keys = λ e c. Contains-keys list other more e.0 (h.keys e c);
  bits = λ e bit c there. let f = h.bits e bit c there in record { set = f.set; entry = more (e.0, f.set) f.entry; there = f.there };
  differ = h.differ;
}

-- the items that entries give, after others
module _ (n : Numbers) (front old new : List (ℕ × Bits)) (moved : IsPermutation old new) where
  abbrev items_of : ℕ × Bits → List (ℕ × Bits)
  items_of f = with_tokens f.1 (vec_items_at n.expansions.items f.0)

  pub unfolded_moved : (e : ℕ × Bits) → Contains (front ++ unfolded n old) e → Contains (front ++ unfolded n new) e
  unfolded_moved e c = elim (Contains-append_cases front (unfolded n old) e c) [
    | inl f ↦ Contains-append_left front (unfolded n new) e f
    | inr b ↦ let from = of_flat items_of old e b in Contains-append_right front (unfolded n new) e (in_flat_map items_of new from.0 e (Contains-permutation old new from.0 moved from.1) from.2)
  ]

module _ (g : Rules) (n : Numbers) (numbers : AreNumbers g n) (begun shared_sets kernel_sets sets : List Bits) (kernel : List ℕ) (known : AreNumbered n.items.items (kernel_in begun kernel)) (packed : ArePackedIn begun kernel) (are : AreItems g (items_by n.items.items (kernel_in begun kernel)))
    (kept : KeepsNumbers begun shared_sets) (shared : List (ℕ × ℕ)) (within : AreSetsIn shared_sets shared) (propagation : IsNumberedPropagation g n (items_by n.items.items (kernel_in begun kernel)) shared_sets shared [])
    (rising : List (ℕ × ℕ)) (turned : IsPermutation shared rising) (first second list : List (ℕ × ℕ)) (gathers_kernel : GathersNumbers (parts_in itself (kernel_in shared_sets kernel)) shared_sets kernel_sets [] first) (gathers_others : GathersNumbers (unfolded n (readings (set_at kernel_sets) rising)) kernel_sets sets first second)
    (moved : IsPermutation second list) (rise : Ordered (λ (d e : ℕ × ℕ). d.0 < e.0) list) where
  abbrev kernel_items : List (Numbered Bits)
  kernel_items = kernel_in begun kernel

  abbrev given : List (ℕ × Bits)
  given = readings (set_at shared_sets) shared

  abbrev entries : List (ℕ × Bits)
  entries = readings (set_at sets) list

  abbrev read_shared : ℕ × ℕ → ℕ × Bits
  read_shared e = (e.0, set_at shared_sets e.1)

  within_rising : AreSetsIn shared_sets rising
  within_rising e c = within e (Contains-permutation rising shared e (IsPermutation-sym shared rising turned) c)

  in_order : Gathers (parts_in itself kernel_items ++ unfolded n (readings (set_at shared_sets) rising)) (readings (set_at sets) second)
  in_order =
      let kernel_part : Gathers (parts_in itself (kernel_in shared_sets kernel)) (readings (set_at kernel_sets) first) = gathers_kernel.gathers [] Gathers-none in
      let whole = gathers_others.gathers (parts_in itself (kernel_in shared_sets kernel)) kernel_part in
      subst (λ (is : List (Numbered Bits)). Gathers (parts_in itself is ++ unfolded n (readings (set_at shared_sets) rising)) (readings (set_at sets) second)) (kernel_kept begun shared_sets kept kernel packed)
      (subst (λ (rs : List (ℕ × Bits)). Gathers (parts_in itself (kernel_in shared_sets kernel) ++ unfolded n rs) (readings (set_at sets) second)) (readings_kept shared_sets kernel_sets gathers_kernel.kept rising within_rising) whole)

  all_gathered : Gathers (parts_in itself kernel_items ++ unfolded n given) (readings (set_at sets) second)
  all_gathered =
      let there : IsPermutation given (readings (set_at shared_sets) rising) = IsPermutation-map read_shared shared rising turned in
      let back : IsPermutation (readings (set_at shared_sets) rising) given = IsPermutation-sym given (readings (set_at shared_sets) rising) there in
      Gathers-same (parts_in itself kernel_items ++ unfolded n (readings (set_at shared_sets) rising)) (parts_in itself kernel_items ++ unfolded n given) (readings (set_at sets) second)
      (unfolded_moved n (parts_in itself kernel_items) (readings (set_at shared_sets) rising) given back) (unfolded_moved n (parts_in itself kernel_items) given (readings (set_at shared_sets) rising) there) in_order

  listed : Gathers (parts_in itself kernel_items ++ unfolded n given) (readings itself entries)
  listed = subst (Gathers (parts_in itself kernel_items ++ unfolded n given)) (sym (readings_itself entries)) (Gathers-rising list rise (set_at sets) (parts_in itself kernel_items ++ unfolded n given) second moved all_gathered)

  sharing : IsPropagation Begins LetsPass g n (map (meant itself) (items_by n.items.items kernel_items)) given []
  sharing = subst (λ (is : List (Dotted Bits)). IsPropagation Begins LetsPass g n is given []) (sym (meant_itself (items_by n.items.items kernel_items))) propagation

  pub Numbered-closure : IsNumberedClosure g n (items_by n.items.items kernel_items) sets list
  Numbered-closure =
      let both = Closure-of itself Begins LetsPass g n numbers kernel_items known are given sharing entries listed (numbers_rise entries (readings_rise (set_at sets) list rise)) in
      let same = entries_are sets list in
      record {
        known = λ e c. gathers_others.known e (Contains-permutation list second e (IsPermutation-sym second list moved) c);
        numbered = subst (AreNumbered n.items.items) same both.0;
        closed = subst (λ (xs : List (Numbered Bits)). IsClosureBy itself Begins LetsPass g (items_by n.items.items kernel_items) (items_by n.items.items xs)) same both.1;
      }
