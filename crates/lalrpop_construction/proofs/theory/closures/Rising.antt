-- Entries that were sorted by number gather the same as before, and are items by number.
use Rattle.std.proofs.Common.{ℕ, ◌<◌, List, map, sym, ◌∙◌, subst}
use Rattle.std.specs.Prelude.{slice_get, IsPermutation}
use Rattle.std.specs.Map.{keys_of}
use Rattle.std.proofs.lemmas.List.Sorted.{Contains-permutation, IsPermutation-map, IsPermutation-sym}
use Rattle.std.proofs.lemmas.Option.{slice_get-map}
use Rattle.lalrpop_base.specs.Words.{Bits, AllDiffer, Ordered, readings}
use Rattle.lalrpop_construction.specs.Words.{numbered_of}
use Rattle.lalrpop_collections.specs.lists.Entries.{Gathers}
use Rattle.lalrpop_numbers.specs.declared.numbers.numbered.Numbered.{Numbered}
use Rattle.lalrpop_collections.proofs.theory.collections.JoinedEntries.{readings_differ}
use Rattle.lalrpop_collections.proofs.theory.lists.Lists.{some_of_map}
use Rattle.lalrpop_collections.proofs.theory.collections.SparseMaps.{rising_differ}

-- a table gathers the same in another order
Gathers-permutation : {K : Type 0} (list old new : List (K × Bits)) → IsPermutation old new → AllDiffer (keys_of new) → Gathers list old → Gathers list new
Gathers-permutation list old new moved differ h =
    let back = IsPermutation-sym old new moved in
    record {
      found = λ e c. let f = h.found e c in record { set = f.set; entry = Contains-permutation old new (e.0, f.set) moved f.entry; all = f.all };
      keys = λ e c. h.keys e (Contains-permutation new old e back c);
      bits = λ e bit c there. h.bits e bit (Contains-permutation new old e back c) there;
      differ = differ;
    }

module _ {L : Type 0} (es : List (ℕ × L)) (rise : Ordered (λ (d e : ℕ × L). d.0 < e.0) es) where
  pub numbers_rise : Ordered (λ (d e : Numbered L). d.number < e.number) (map numbered_of es)
  numbers_rise i j a b l at_i at_j =
      let d = some_of_map (numbered_of {L = L}) (slice_get es i) a (sym (slice_get-map numbered_of es i) ∙ at_i) in
      let e = some_of_map (numbered_of {L = L}) (slice_get es j) b (sym (slice_get-map numbered_of es j) ∙ at_j) in
      subst (λ (x : Numbered L). a.number < x.number) e.2 (subst (λ (x : Numbered L). x.number < (numbered_of e.0).number) d.2 (rise i j d.0 e.0 l d.1 e.1))

  pub Gathers-rising : (meaning : L → Bits) (list : List (ℕ × Bits)) (table : List (ℕ × L)) → IsPermutation table es → Gathers list (readings meaning table) → Gathers list (readings meaning es)
  Gathers-rising meaning list table moved h =
      let read : ℕ × L → ℕ × Bits = λ e. (e.0, meaning e.1) in
      Gathers-permutation list (readings meaning table) (readings meaning es) (IsPermutation-map read table es moved) (readings_differ meaning es (rising_differ es rise)) h
