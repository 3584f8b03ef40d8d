-- The numbers of a list, rising, each once, as the keys of a set.
use Rattle.std.proofs.Common.{◌≡◌, ℕ, ◌==◌, ◌||◌, Bool, true, false, cond, List, [], ◌∷◌, ◌++◌, refl, sym, ap, ◌∙◌, arith}
use Rattle.std.specs.List.{list_any}
use Rattle.std.specs.Ordering.{nat_cmp, eq_by_cmp}
use Rattle.std.specs.Cmp.{unsigned_tied}
use Rattle.std.specs.BTreeSet.{BTreeSet, IsOrdered, Updates, contains}
use Rattle.std.proofs.lemmas.Map.Keys.{below_from_sorted}
use Rattle.lalrpop_base.specs.Words.{rising, bits_of, has-bits_of, same_bits}
use Rattle.lalrpop_collections.proofs.theory.sets.BitLemmas.{rising-bits_of}
use Rattle.lalrpop_report.specs.Words.{ascending}

-- whether the number is in the list
abbrev pub is_in : List ℕ → ℕ → Bool
is_in numbers q = list_any (λ n. q == n) numbers

tied_in : (q : ℕ) (numbers : List ℕ) → list_any (eq_by_cmp nat_cmp q) numbers ≡ is_in numbers q
tied_in q [] = refl
tied_in q (n ∷ numbers) = ap (λ x. x || list_any (eq_by_cmp nat_cmp q) numbers) (unsigned_tied q n) ∙ ap (λ x. (q == n) || x) (tied_in q numbers)

flip : (x y : ℕ) → (x == y) ≡ (y == x)
flip x y = grind arith

is_in-push : (numbers : List ℕ) (k q : ℕ) → is_in (numbers ++ k ∷ []) q ≡ cond (k == q) true (is_in numbers q)
is_in-push [] k q = ap (λ x. x || false) (flip q k) ∙ (elim (k == q) as (λ b. (b || false) ≡ cond b true false) [ true ↦ refl | false ↦ refl ])
is_in-push (n ∷ numbers) k q = ap (λ x. (q == n) || x) (is_in-push numbers k q) ∙ (elim (k == q) as (λ b. ((q == n) || cond b true (is_in numbers q)) ≡ cond b true ((q == n) || is_in numbers q)) [
  | true ↦ elim (q == n) as (λ b. (b || true) ≡ true) [ true ↦ refl | false ↦ refl ]
  | false ↦ refl
])

-- the set has the numbers of the list
pub record HasNumbers (set : BTreeSet ℕ) (numbers : List ℕ) : Type 0 where
  pub same : (q : ℕ) → contains nat_cmp set q ≡ is_in numbers q
  pub ordered : IsOrdered nat_cmp set

pub one_number_more : (old new : BTreeSet ℕ) (numbers : List ℕ) (k : ℕ) → HasNumbers old numbers → Updates nat_cmp old new k true → IsOrdered nat_cmp new → HasNumbers new (numbers ++ k ∷ [])
one_number_more old new numbers k had updates ordered = record {
  same = λ q. updates.0 q ∙ ap (λ b. cond b true (contains nat_cmp old q)) (unsigned_tied k q) ∙ ap (λ x. cond (k == q) true x) (had.same q) ∙ sym (is_in-push numbers k q);
  ordered = ordered;
}

-- the keys of the set are the numbers of the list, rising, each once
pub keys_ascend : (set : BTreeSet ℕ) (numbers : List ℕ) → HasNumbers set numbers → set.keys ≡ ascending numbers
keys_ascend set numbers held =
    sym (rising-bits_of set.keys (λ i j less inside. below_from_sorted set.keys i j 0 held.ordered less inside))
    ∙ ap rising (same_bits (bits_of set.keys) (bits_of numbers) (λ q. has-bits_of set.keys q ∙ sym (tied_in q set.keys) ∙ held.same q ∙ sym (has-bits_of numbers q)))
