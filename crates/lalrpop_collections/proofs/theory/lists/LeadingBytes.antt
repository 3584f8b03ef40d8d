-- Texts whose leading numbers differ are ordered as these numbers are.
use Rattle.std.proofs.Common.{◌≡◌, ◌≢◌, ℕ, zero, suc, ◌<◌, ◌+◌, ◌*◌, List, [], ◌∷◌, refl, sym, ◌∙◌, ap, inl, inr, arith, slice_index, subst, ◌≤◌, length, Bool, true, false, ◌==◌, eqb-true, eq-eqb}
use Rattle.std.specs.declared.cmp.Ordering.{Ordering}
use Rattle.std.specs.declared.cmp.Ordering.TheVariants.{Less, Equal, Greater}
use Rattle.std.specs.Ordering.{nat_cmp, ordering_then, ordering_reverse}
use Rattle.std.specs.Cmp.Lexicographic.{slice_cmp, bytes_decides}
use Rattle.std.proofs.lemmas.List.{ext_get_or}
use lib.Pointwise.{pointwise}
use Rattle.std.specs.Cmp.{nat_cmp_total, tied_itself}
use Rattle.std.proofs.lemmas.Bool.{cases_order, lt-ltb, false≢true, false_from_ne_true}
use Rattle.lalrpop_collections.specs.lists.LeadingBytes.{AreBytes, written_on, leading_number}
use Rattle.lalrpop_collections.proofs.theory.lists.RisingOrder.{cmp_turned, less_is}

-- the first k numbers of two lists are the same
abbrev AgreeBelow : ℕ → List ℕ → List ℕ → Type 0
AgreeBelow k xs ys = (j : ℕ) → j < k → slice_index xs j ≡ slice_index ys j

less_there : (k : ℕ) (xs ys : List ℕ) → AgreeBelow k xs ys → slice_index xs k < slice_index ys k → slice_cmp nat_cmp xs ys ≡ Less
less_there k xs [] same l = absurd (omega arith)
less_there k [] (y ∷ ys) same l = refl
less_there zero (x ∷ xs) (y ∷ ys) same l = rw (lt-ltb x y l) refl
less_there (suc k) (x ∷ xs) (y ∷ ys) same l =
    let first : x ≡ y = same 0 (omega arith) in
    ap (λ (z : ℕ). ordering_then (nat_cmp x z) (slice_cmp nat_cmp xs ys)) (sym first)
    ∙ ap (λ (o : Ordering). ordering_then o (slice_cmp nat_cmp xs ys)) (tied_itself nat_cmp_total x)
    ∙ less_there k xs ys (λ j m. same (suc j) (omega arith)) l

stays_less : (count a b place : ℕ) (xs ys : List ℕ) → AreBytes xs → a < b → written_on a xs place count < written_on b ys place count
stays_less zero a b place xs ys small l = l
stays_less (suc count) a b place xs ys small l =
    let byte : slice_index xs place < 256 = small place in
    stays_less count (a * 256 + slice_index xs place) (b * 256 + slice_index ys place) (suc place) xs ys small (omega arith)

one_more : (k : ℕ) (xs ys : List ℕ) → AgreeBelow k xs ys → slice_index xs k ≡ slice_index ys k → AgreeBelow (suc k) xs ys
one_more k xs ys same here j l = elim (cases_order j k) [
  | inl is ↦ ap (slice_index xs) is ∙ here ∙ ap (slice_index ys) (sym is)
  | inr other ↦ elim other [ inl below ↦ same j below | inr above ↦ absurd (omega arith) ]
]

less_from : (count a place : ℕ) (xs ys : List ℕ) → AreBytes xs → AreBytes ys → AgreeBelow place xs ys
    → written_on a xs place count < written_on a ys place count → slice_cmp nat_cmp xs ys ≡ Less
less_from zero a place xs ys bx by same l = absurd (omega arith)
less_from (suc count) a place xs ys bx by same l =
    let x : ℕ = slice_index xs place in
    let y : ℕ = slice_index ys place in
    elim (cases_order x y) [
      | inl is ↦ less_from count (a * 256 + x) (suc place) xs ys bx by (one_more place xs ys same is)
          (subst (λ (z : ℕ). written_on (a * 256 + x) xs (suc place) count < written_on (a * 256 + z) ys (suc place) count) (sym is) l)
      | inr other ↦ elim other [
        | inl less ↦ less_there place xs ys same less
        | inr more ↦
            let turned = stays_less count (a * 256 + y) (a * 256 + x) (suc place) ys xs by (omega arith) in
            absurd (omega (arith, turned, l))
      ]
    ]

less_by_number : (xs ys : List ℕ) → AreBytes xs → AreBytes ys → leading_number xs < leading_number ys → slice_cmp nat_cmp xs ys ≡ Less
unfolding leading_number
less_by_number xs ys bx by l = less_from 8 0 0 xs ys bx by (λ j m. absurd (omega arith)) l

pub ordered_by_number : (xs ys : List ℕ) → AreBytes xs → AreBytes ys → (o : Ordering) → o ≡ nat_cmp (leading_number xs) (leading_number ys) → (o ≢ Equal) → o ≡ slice_cmp nat_cmp xs ys
ordered_by_number xs ys bx by o is unequal = elim (cases_order (leading_number xs) (leading_number ys)) [
  | inl same ↦ absurd (unequal (is ∙ ap (nat_cmp (leading_number xs)) (sym same) ∙ tied_itself nat_cmp_total (leading_number xs)))
  | inr other ↦ elim other [
    | inl less ↦ is ∙ less_is (leading_number xs) (leading_number ys) less ∙ sym (less_by_number xs ys bx by less)
    | inr more ↦
        is
        ∙ nat_cmp_total.antisymm (leading_number xs) (leading_number ys)
        ∙ ap ordering_reverse (less_is (leading_number ys) (leading_number xs) more ∙ sym (less_by_number ys xs by bx more))
        ∙ sym (cmp_turned xs ys)
  ]
]

-- ---- texts with the same leading number agree on the leading bytes
pub greater_is : (a b : ℕ) → b < a → nat_cmp a b ≡ Greater
greater_is a b l = nat_cmp_total.antisymm a b ∙ ap ordering_reverse (less_is b a l)

agree : (count a b place : ℕ) (xs ys : List ℕ) → AreBytes xs → AreBytes ys → written_on a xs place count ≡ written_on b ys place count
    → (a ≡ b) × ((j : ℕ) → place ≤ j → j < place + count → slice_index xs j ≡ slice_index ys j)
agree zero a b place xs ys bx by is = (is, λ j l m. absurd (omega arith))
agree (suc count) a b place xs ys bx by is =
    let x : slice_index xs place < 256 = bx place in
    let y : slice_index ys place < 256 = by place in
    let rest = agree count (a * 256 + slice_index xs place) (b * 256 + slice_index ys place) (suc place) xs ys bx by is in
    let here : slice_index xs place ≡ slice_index ys place = omega (arith, rest.0, x, y) in (
      omega (arith, rest.0, x, y),
      λ j l m. elim (cases_order j place) [
        | inl same ↦ ap (slice_index xs) same ∙ here ∙ ap (slice_index ys) (sym same)
        | inr other ↦ elim other [ inl below ↦ absurd (omega arith) | inr above ↦ rest.1 j (omega arith) (omega arith) ]
      ],
    )

agree_below : (xs ys : List ℕ) → AreBytes xs → AreBytes ys → leading_number xs ≡ leading_number ys → AgreeBelow 8 xs ys
unfolding leading_number
agree_below xs ys bx by is j l = (agree 8 0 0 0 xs ys bx by is).1 j (omega arith) (omega arith)

one_up : (a b : ℕ) → nat_cmp a b ≡ nat_cmp (suc a) (suc b)
one_up a b = elim (cases_order a b) [
  | inl is ↦ ap (nat_cmp a) (sym is) ∙ tied_itself nat_cmp_total a ∙ sym (tied_itself nat_cmp_total (suc a)) ∙ ap (λ (z : ℕ). nat_cmp (suc a) (suc z)) is
  | inr other ↦ elim other [
    | inl less ↦ less_is a b less ∙ sym (less_is (suc a) (suc b) (omega arith))
    | inr more ↦ greater_is a b more ∙ sym (greater_is (suc a) (suc b) (omega arith))
  ]
]

by_lengths : (n : ℕ) (xs ys : List ℕ) → AgreeBelow n xs ys → length xs ≤ n → length ys ≤ n → nat_cmp (length xs) (length ys) ≡ slice_cmp nat_cmp xs ys
by_lengths n [] [] same lx ly = tied_itself nat_cmp_total 0
by_lengths n [] (y ∷ ys) same lx ly = less_is 0 (length (y ∷ ys)) (omega arith)
by_lengths n (x ∷ xs) [] same lx ly = greater_is (length (x ∷ xs)) 0 (omega arith)
by_lengths zero (x ∷ xs) (y ∷ ys) same lx ly = absurd (omega arith)
by_lengths (suc n) (x ∷ xs) (y ∷ ys) same lx ly =
    let first : x ≡ y = same 0 (omega arith) in
    sym (one_up (length xs) (length ys))
    ∙ by_lengths n xs ys (λ j m. same (suc j) (omega arith)) (omega arith) (omega arith)
    ∙ ap (λ (o : Ordering). ordering_then o (slice_cmp nat_cmp xs ys)) (sym (tied_itself nat_cmp_total x))
    ∙ ap (λ (z : ℕ). ordering_then (nat_cmp x z) (slice_cmp nat_cmp xs ys)) first

-- if texts with the same leading number have no byte after the leading ones, they are ordered by
-- their lengths
pub ordered_by_length : (xs ys : List ℕ) → AreBytes xs → AreBytes ys → leading_number xs ≡ leading_number ys → length xs ≤ 8 → length ys ≤ 8
    → nat_cmp (length xs) (length ys) ≡ slice_cmp nat_cmp xs ys
ordered_by_length xs ys bx by is lx ly = by_lengths 8 xs ys (agree_below xs ys bx by is) lx ly

pub equal_by_length : (xs ys : List ℕ) → AreBytes xs → AreBytes ys → leading_number xs ≡ leading_number ys → length xs ≤ 8 → (length xs == length ys) ≡ pointwise ◌==◌ xs ys
equal_by_length xs ys bx by is lx = told (length xs == length ys) refl
  where
    told : (b : Bool) → (length xs == length ys) ≡ b → b ≡ pointwise ◌==◌ xs ys
    told true e = sym ((bytes_decides xs ys).1 (ext_get_or 0 xs ys (eqb-true (length xs) (length ys) e) (λ j l. agree_below xs ys bx by is j (omega arith))))
    told false e = sym (false_from_ne_true (pointwise ◌==◌ xs ys) (λ t. false≢true (sym e ∙ eq-eqb (length xs) (length ys) (ap length ((bytes_decides xs ys).0 t)))))
