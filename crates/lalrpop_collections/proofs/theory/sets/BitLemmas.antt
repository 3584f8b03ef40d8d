-- Ascending lists and the sets of their numbers.
use Rattle.std.proofs.Common.{◌≡◌, ℕ, ◌+◌, ⊎_elim, ◌==◌, true, ◌||◌, List, [], ◌∷◌, map, length, refl, sym, ◌∙◌, ap, arith, eqb-true}
use Rattle.std.specs.declared.cmp.Ordering.TheVariants.{Less}
use Rattle.std.specs.Ordering.{nat_cmp}
use Rattle.std.specs.Cmp.{nat_cmp_total}
use Rattle.std.specs.FinMap as finite
use Rattle.std.specs.FinMap.Entries.{put, by_order}
use Rattle.std.specs.List.{AllByRecursion}
use Rattle.std.specs.List.Sorted.{IsStrictlySortedBy}
use Rattle.std.proofs.lemmas.Bool.{cases_Bool}
use Rattle.std.proofs.lemmas.Map.Keys.{sorted_from_strictly_increasing}
use Rattle.lalrpop_collections.specs.Words.{Bits, has, rising, no_bits, with_bit, bits_of, IsRising, has-with_bit, same_bits}

-- adding a bit that is in the set changes nothing
pub with_bit-there : (s : Bits) (x : ℕ) → has s x ≡ true → with_bit s x ≡ s
with_bit-there s x there = same_bits _ _ (λ q. has-with_bit s x q ∙ absorbed q)
  where
    absorbed : (q : ℕ) → ((q == x) || has s q) ≡ has s q
    absorbed q = ⊎_elim (λ t. ap (λ b. b || has s q) t ∙ sym (ap (λ y. has s y) (eqb-true q x t) ∙ there)) (λ f. ap (λ b. b || has s q) f) (cases_Bool (q == x))

abbrev marked : List ℕ → List (ℕ × Unit {0})
marked xs = map (λ x. (x, tt)) xs

put_front : (x : ℕ) (xs : List ℕ) → AllByRecursion (λ y. nat_cmp x y ≡ Less) xs → put nat_cmp x tt (marked xs) ≡ marked (x ∷ xs)
put_front x [] h = refl
put_front x (y ∷ ys) h = ap (λ o. by_order o (marked (x ∷ y ∷ ys)) ((y, tt) ∷ marked ys) ((y, tt) ∷ put nat_cmp x tt (marked ys))) h.0

no_entries : (es : List (ℕ × Unit {0})) → length es ≡ 0 → es ≡ []
no_entries [] h = refl
no_entries (e ∷ es) h = absurd (omega arith)

entries-bits_of : (xs : List ℕ) → IsStrictlySortedBy nat_cmp xs → finite.entries (bits_of xs) ≡ marked xs
unfolding IsStrictlySortedBy
entries-bits_of [] h = no_entries _ (sym (finite.len-entries no_bits) ∙ finite.len-empty nat_cmp (Unit {0}))
entries-bits_of (x ∷ xs) h = finite.entries-insert nat_cmp_total (bits_of xs) x tt ∙ ap (λ es. put nat_cmp x tt es) (entries-bits_of xs h.1) ∙ put_front x xs h.0

firsts : (xs : List ℕ) → map (λ e. e.0) (marked xs) ≡ xs
firsts [] = refl
firsts (x ∷ xs) = ap (λ ys. x ∷ ys) (firsts xs)

-- an ascending list is the list of its set
pub rising-bits_of : (xs : List ℕ) → IsRising xs → rising (bits_of xs) ≡ xs
rising-bits_of xs up =
    ap (λ (es : List (ℕ × Unit {0})). map (λ e. e.0) es) (entries-bits_of xs (sorted_from_strictly_increasing xs (λ k l. up k (k + 1) (omega arith) l))) ∙ firsts xs
