-- The sets of bits below a number: the number of bits of a set, and a list of all such sets.
use Rattle.std.proofs.Common.{◌≡◌, ◌≢◌, ℕ, zero, suc, ◌<◌, ◌≤◌, List, [], ◌∷◌, ◌++◌, map, refl, sym, ap, subst, ◌∙◌, arith, Bool, true, false, cond, eqb-true, eq-eqb, ⊎_elim}
use Rattle.std.specs.Prelude.{Contains, ◌||◌, ◌==◌}
use Rattle.std.proofs.lemmas.List.Elements.{Contains-append_left, Contains-append_right}
use Rattle.std.proofs.lemmas.Bool.{cases_eq, cases_lt}
use Rattle.lalrpop_collections.specs.Words.{Bits, has, no_bits, with_bit, join, has-no_bits, has-with_bit, same_bits}
use Rattle.lalrpop_collections.proofs.theory.lists.Members.{contains_head, contains_map}
use Rattle.lalrpop_collections.proofs.theory.sets.BitSets.{join_left, join_cases}
use Rattle.lalrpop_collections.specs.lists.Counts.{one_if, count, IsBelow}

one_few : (b : Bool) → one_if b ≤ 1
one_few true = omega arith
one_few false = omega arith

pub count_few : (m : ℕ) (s : Bits) → count m s ≤ m
unfolding count
count_few zero s = omega arith
count_few (suc m) s = let i = count_few m s in let o = one_few (has s m) in omega arith

one_le : (a b : Bool) → (a ≡ true → b ≡ true) → one_if a ≤ one_if b
one_le true b h = rw (h refl) (omega arith)
one_le false b h = omega arith

-- a larger set has a greater count
pub count_le : (m : ℕ) (s t : Bits) → ((q : ℕ) → has s q ≡ true → has t q ≡ true) → count m s ≤ count m t
unfolding count
count_le zero s t h = omega arith
count_le (suc m) s t h = let i = count_le m s t h in let o = one_le (has s m) (has t m) (h m) in omega arith

one_same : (a b : Bool) → (a ≡ true → b ≡ true) → one_if b ≤ one_if a → a ≡ b
one_same true b h l = sym (h refl)
one_same false true h l = absurd (omega arith)
one_same false false h l = refl

-- if the count of a larger set is no greater, both sets are the same below the number
count_same : (m : ℕ) (s t : Bits) → ((q : ℕ) → has s q ≡ true → has t q ≡ true) → count m t ≤ count m s → (q : ℕ) → q < m → has s q ≡ has t q
unfolding count
count_same zero s t h l q b = absurd (omega arith)
count_same (suc m) s t h l q b =
    let lower = count_le m s t h in
    let one = one_le (has s m) (has t m) (h m) in
    ⊎_elim (λ less. count_same m s t h (omega arith) q less)
    (λ most.
    let here : m ≡ q = omega arith in
    subst (λ (n : ℕ). has s n ≡ has t n) here (one_same (has s m) (has t m) (h m) (omega arith)))
    (cases_lt q m)

has_none : (m : ℕ) (s : Bits) → IsBelow m s → (q : ℕ) → m ≤ q → (b : Bool) → has s q ≡ b → b ≡ false
has_none m s below q l true e = let less = below q e in absurd (omega arith)
has_none m s below q l false e = refl

pub join_below : (m : ℕ) (s t : Bits) → IsBelow m s → IsBelow m t → IsBelow m (join s t)
join_below m s t a b q h = ⊎_elim (λ l. a q l) (λ r. b q r) (join_cases s t q h)

join_same : (m : ℕ) (s t : Bits) → IsBelow m s → IsBelow m t → count m (join s t) ≤ count m s → s ≡ join s t
join_same m s t a b most = same_bits s (join s t) (λ q.
    ⊎_elim (λ low. count_same m s (join s t) (join_left s t) most q low)
    (λ high. has_none m s a q high (has s q) refl ∙ sym (has_none m (join s t) (join_below m s t a b) q high (has (join s t) q) refl))
    (cases_lt q m))

-- a join that is another set has a greater count
pub join_counts : (m : ℕ) (s t : Bits) → IsBelow m s → IsBelow m t → join s t ≢ s → count m s < count m (join s t)
join_counts m s t a b other =
    ⊎_elim (λ less. less)
    (λ most. absurd (other (sym (join_same m s t a b most))))
    (cases_lt (count m s) (count m (join s t)))

-- ---- a list of all sets of bits below a number
pub subsets : ℕ → List Bits
subsets zero = no_bits ∷ []
subsets (suc m) = subsets m ++ map (λ s. with_bit s m) (subsets m)

-- the part of a set below a number
part : ℕ → Bits → Bits
part zero s = no_bits
part (suc m) s = cond (has s m) (with_bit (part m s) m) (part m s)

in_subsets_at : (m : ℕ) (s : Bits) (b : Bool) → Contains (subsets m) (part m s) → Contains (subsets m ++ map (λ s. with_bit s m) (subsets m)) (cond b (with_bit (part m s) m) (part m s))
in_subsets_at m s true c = Contains-append_right (subsets m) (map (λ s. with_bit s m) (subsets m)) (with_bit (part m s) m) (contains_map (λ s. with_bit s m) (subsets m) (part m s) c)
in_subsets_at m s false c = Contains-append_left (subsets m) (map (λ s. with_bit s m) (subsets m)) (part m s) c

in_subsets : (m : ℕ) (s : Bits) → Contains (subsets m) (part m s)
unfolding subsets part
in_subsets zero s = contains_head no_bits []
in_subsets (suc m) s = in_subsets_at m s (has s m) (in_subsets m s)

has_part_at : (m : ℕ) (s : Bits) (q : ℕ) (b : Bool) → has s m ≡ b → (q < m → has (part m s) q ≡ has s q) → q < suc m → (m ≤ q → has (part m s) q ≡ false) → has (cond b (with_bit (part m s) m) (part m s)) q ≡ has s q
has_part_at m s q true e low l high =
    ⊎_elim (λ (same : m ≡ q).
    has-with_bit (part m s) m q ∙ ap (λ c. c || has (part m s) q) (eq-eqb q m (sym same)) ∙ sym (subst (λ (n : ℕ). has s n ≡ true) same e))
    (λ (other : m ≢ q).
    let no : (q == m) ≡ false = not_equal q m (q == m) refl (λ f. other (sym f)) in
    has-with_bit (part m s) m q ∙ ap (λ c. c || has (part m s) q) no ∙ low (omega arith))
    (cases_eq m q)
  where
    not_equal : (q m : ℕ) (b : Bool) → (q == m) ≡ b → q ≢ m → b ≡ false
    not_equal q m true e n = absurd (n (eqb-true q m e))
    not_equal q m false e n = refl
has_part_at m s q false e low l high =
    ⊎_elim (λ less. low less)
    (λ most.
    let same : m ≡ q = omega arith in
    high most ∙ sym (subst (λ (n : ℕ). has s n ≡ false) same e))
    (cases_lt q m)

part_high : (m : ℕ) (s : Bits) (q : ℕ) → m ≤ q → has (part m s) q ≡ false
unfolding part
part_high zero s q l = has-no_bits q
part_high (suc m) s q l = part_high_at m s q (has s m) l (part_high m s q (omega arith))
  where
    not_equal : (q m : ℕ) (b : Bool) → (q == m) ≡ b → q ≢ m → b ≡ false
    not_equal q m true e n = absurd (n (eqb-true q m e))
    not_equal q m false e n = refl

    part_high_at : (m : ℕ) (s : Bits) (q : ℕ) (b : Bool) → suc m ≤ q → has (part m s) q ≡ false → has (cond b (with_bit (part m s) m) (part m s)) q ≡ false
    part_high_at m s q true l h = has-with_bit (part m s) m q ∙ ap (λ c. c || has (part m s) q) (not_equal q m (q == m) refl (omega arith)) ∙ h
    part_high_at m s q false l h = h

has_part : (m : ℕ) (s : Bits) (q : ℕ) → q < m → has (part m s) q ≡ has s q
unfolding part
has_part zero s q l = absurd (omega arith)
has_part (suc m) s q l = has_part_at m s q (has s m) refl (has_part m s q) l (part_high m s q)

-- a set of bits below the number is equal to its part below it, and so is in the list
pub among_subsets : (m : ℕ) (s : Bits) → IsBelow m s → Contains (subsets m) s
among_subsets m s below =
    let whole : part m s ≡ s = same_bits (part m s) s (λ q. ⊎_elim (λ low. has_part m s q low) (λ high. part_high m s q high ∙ sym (has_none m s below q high (has s q) refl)) (cases_lt q m)) in
    subst (Contains (subsets m)) whole (in_subsets m s)
