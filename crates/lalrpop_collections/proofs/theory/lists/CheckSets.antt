-- Ordered sets as lists of keys that differ.
use Rattle.std.proofs.Common.{◌≡◌, ◌+◌, List, length, refl, sym, subst, arith, Bool, true, false, not, if◌then◌else◌}
use Rattle.std.specs.Prelude.{Contains, MatchBool}
use Rattle.std.specs.declared.cmp.Ordering.{Ordering}
use Rattle.std.specs.Cmp.{IsTotalOrder}
use Rattle.std.specs.BTreeSet.{BTreeSet, insert_key, contains, IsSubset}
use Rattle.std.specs.List.Sorted.{IsStrictlySortedBy}
use Rattle.std.proofs.lemmas.Map.Lookups.{CmpEqualImpliesEq}
use Rattle.std.proofs.lemmas.Map.Views.{btree_set_contains_iff}
use Rattle.lalrpop_collections.specs.Words.{AllDiffer, HaveSame}
use Rattle.lalrpop_collections.specs.lists.CheckSets.{IsAdded}
use Rattle.lalrpop_collections.proofs.theory.lists.Members.{insert_key-has, insert_key-kept, insert_key-from, apart-from_sorted}
use Rattle.lalrpop_collections.proofs.theory.lists.Places.{differ_from_apart}

module _ {K : Type 0} (R : K → K → Ordering) (total : IsTotalOrder R) (exact : CmpEqualImpliesEq R) where
  pub inserted : (k : K) (old new : List K) → new ≡ insert_key R old k → IsAdded k old new
  inserted k old new e = record {
    kept = λ i c. subst (λ (xs : List K). Contains xs i) (sym e) (insert_key-kept R old k i c);
    there = subst (λ (xs : List K). Contains xs k) (sym e) (insert_key-has R exact old k);
    from = λ i c. insert_key-from R old k i (subst (λ (xs : List K). Contains xs i) e c);
  }

  pub keys_differ : (keys : List K) → IsStrictlySortedBy R keys → AllDiffer keys
  keys_differ keys s = differ_from_apart keys (apart-from_sorted R total keys s)

  not_false : (b : Bool) → true ≡ not b → b ≡ true → ⊥
  not_false true e h = cc
  not_false false e h = cc

  not_true : (b : Bool) → false ≡ not b → b ≡ true
  not_true true e = refl
  not_true false e = cc

  pub told : (b : Bool) (k : K) (s n : BTreeSet K) → b ≡ not (contains R s k) → length n.keys ≡ length s.keys + (if b then 1 else 0) →
      MatchBool b ((length n.keys ≡ length s.keys + 1) × ¬ Contains s.keys k) ((length n.keys ≡ length s.keys) × Contains s.keys k)
  told true k s n e l = (l, λ c. not_false (contains R s k) e ((btree_set_contains_iff total exact s k).1 c))
  told false k s n e l = (omega arith, (btree_set_contains_iff total exact s k).0 (not_true (contains R s k) e))

  pub same_of : (s t : BTreeSet K) → IsSubset R s t → IsSubset R t s → HaveSame s.keys t.keys
  same_of s t a b k = (
    λ c. (btree_set_contains_iff total exact t k).0 (a k ((btree_set_contains_iff total exact s k).1 c)),
    λ c. (btree_set_contains_iff total exact s k).0 (b k ((btree_set_contains_iff total exact t k).1 c)),
  )

  pub subset_of : (s t : BTreeSet K) → HaveSame s.keys t.keys → IsSubset R s t
  subset_of s t h k c = (btree_set_contains_iff total exact t k).1 ((h k).0 ((btree_set_contains_iff total exact s k).0 c))

  pub superset_of : (s t : BTreeSet K) → HaveSame s.keys t.keys → IsSubset R t s
  superset_of s t h k c = (btree_set_contains_iff total exact s k).1 ((h k).1 ((btree_set_contains_iff total exact t k).0 c))
