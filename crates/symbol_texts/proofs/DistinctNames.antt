-- Names differ, and are none of the taken ones.
use Rattle.std.proofs.Common.{◌≡◌, ℕ, ◌+◌, ◌<◌, ◌^◌, suc, zero, Bool, true, false, List, [], ◌∷◌, ◌++◌, length, slice_get, Some, refl, ap, sym, ◌∙◌, arith}
use Rattle.std.proofs.lemmas.Bool.Decides.{Decides-eqb, Decides-and}
use Rattle.std.proofs.lemmas.Option.{slice_get_within}
use Rattle.std.proofs.lemmas.Slice.Eq.{bytes_eq-Decides}
use Rattle.std.specs.Fmt.{decimal}
use Rattle.std.specs.Str.{bytes_eq}
use Rattle.symbol_texts.specs.Differ.{AreApart, Differ, HasNo, HaveNo}
use Rattle.symbol_texts.specs.Distinct.{distinct_names, is_only, name_for, names_from, occurrences}
use Rattle.symbol_texts.proofs.Counted.{has_one, only_one}
use Rattle.symbol_texts.proofs.Marks.{marked_same}

module _ (bases taken : List (List ℕ)) (m : List ℕ) where
  -- the base of a name
  record IsOf (all : List (List ℕ)) (first i : ℕ) (name : List ℕ) : Type 0 where
    base : List ℕ
    at : slice_get all i ≡ Some base
    is : name ≡ name_for (is_only bases taken base) (m ++ 95 ∷ []) (first + i) base

  name_of : (all : List (List ℕ)) (first i : ℕ) (name : List ℕ) → slice_get (names_from bases taken (m ++ 95 ∷ []) first all) i ≡ Some name → IsOf all first i name
  name_of [] first i name at = cc
  name_of (b ∷ all) first zero name at = record {
    base = b;
    at = refl;
    is = let same : name_for (is_only bases taken b) (m ++ 95 ∷ []) first b ≡ name = cc in sym same ∙ ap (λ k. name_for (is_only bases taken b) (m ++ 95 ∷ []) k b) (omega arith);
  }
  name_of (b ∷ all) first (suc i) name at =
      let rest = name_of all (first + 1) i name at in
      record {
        base = rest.base;
        at = rest.at;
        is = rest.is ∙ ap (λ k. name_for (is_only bases taken rest.base) (m ++ 95 ∷ []) k rest.base) (omega arith);
      }

  -- the first base has the number 0
  at_zero : (base : List ℕ) (i : ℕ) → name_for (is_only bases taken base) (m ++ 95 ∷ []) (0 + i) base ≡ name_for (is_only bases taken base) (m ++ 95 ∷ []) i base
  at_zero base i = let same : 0 + i ≡ i = omega arith in ap (λ k. name_for (is_only bases taken base) (m ++ 95 ∷ []) k base) same

  -- an only base is counted once, and is not taken
  once : (base : List ℕ) → is_only bases taken base ≡ true → (occurrences base bases ≡ 1) × (occurrences base taken ≡ 0)
  once base only = (Decides-and _ _ (Decides-eqb (occurrences base bases) 1) (Decides-eqb (occurrences base taken) 0)).0 only

  same_text : (a b : List ℕ) → a ≡ b → bytes_eq a b ≡ true
  same_text a b e = (bytes_eq-Decides a b).1 e

  -- two names that are the same are of one base
  pairs : (bi bj name : List ℕ) (i j : ℕ) (oi oj : Bool) → is_only bases taken bi ≡ oi → is_only bases taken bj ≡ oj → HasNo (m ++ 95 ∷ []) bi → HasNo (m ++ 95 ∷ []) bj → i < 2 ^ 64 → j < 2 ^ 64 → slice_get bases i ≡ Some bi → slice_get bases j ≡ Some bj →
      name ≡ name_for oi (m ++ 95 ∷ []) i bi → name ≡ name_for oj (m ++ 95 ∷ []) j bj → i ≡ j
  pairs bi bj name i j true true only_i only_j no_i no_j few_i few_j at_i at_j is_i is_j =
      only_one (λ other. bytes_eq other bi) bases i j bi bj (once bi only_i).0 at_i (same_text bi bi refl) at_j (same_text bj bi (sym is_j ∙ is_i))
  pairs bi bj name i j true false only_i only_j no_i no_j few_i few_j at_i at_j is_i is_j = absurd (no_i bj (decimal j) (sym is_i ∙ is_j))
  pairs bi bj name i j false true only_i only_j no_i no_j few_i few_j at_i at_j is_i is_j = absurd (no_j bi (decimal i) (sym is_j ∙ is_i))
  pairs bi bj name i j false false only_i only_j no_i no_j few_i few_j at_i at_j is_i is_j = marked_same bi bj m i j few_i few_j (sym is_i ∙ is_j)

  pub names_differ : HaveNo (m ++ 95 ∷ []) bases → length bases < 2 ^ 64 → Differ (distinct_names bases (m ++ 95 ∷ []) taken)
  names_differ none few = λ i j name at_i at_j.
      let of_i = name_of bases 0 i name at_i in
      let of_j = name_of bases 0 j name at_j in
      let in_i : i < length bases = slice_get_within bases i of_i.base of_i.at in
      let in_j : j < length bases = slice_get_within bases j of_j.base of_j.at in
      pairs of_i.base of_j.base name i j _ _ refl refl (none i of_i.base of_i.at) (none j of_j.base of_j.at) (omega (arith, in_i, few)) (omega (arith, in_j, few)) of_i.at of_j.at (of_i.is ∙ at_zero of_i.base i) (of_j.is ∙ at_zero of_j.base j)

  -- a name is not taken
  free : (base name : List ℕ) (i j : ℕ) (only : Bool) → is_only bases taken base ≡ only → HasNo (m ++ 95 ∷ []) name → name ≡ name_for only (m ++ 95 ∷ []) i base → slice_get taken j ≡ Some name → ⊥
  free base name i j true only clear is at =
      let some : 0 < occurrences base taken = has_one (λ other. bytes_eq other base) taken j name at (same_text name base is) in
      absurd (omega (arith, some, (once base only).1))
  free base name i j false only clear is at = clear base (decimal i) is

  pub names_are_free : HaveNo (m ++ 95 ∷ []) taken → AreApart (distinct_names bases (m ++ 95 ∷ []) taken) taken
  names_are_free none = λ i j name at_i at_j.
      let of_i = name_of bases 0 i name at_i in
      free of_i.base name i j _ refl (none j name at_j) (of_i.is ∙ at_zero of_i.base i) at_j
