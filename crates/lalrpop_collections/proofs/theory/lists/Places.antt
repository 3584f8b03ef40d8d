-- Lists whose values differ, and lists with one more value.
use Rattle.std.proofs.Common.{◌≡◌, ◌≢◌, ℕ, zero, suc, ◌+◌, ◌<◌, ◌≤◌, ◌⊎◌, inl, inr, List, [], ◌∷◌, ◌++◌, length, get_or, refl, sym, ◌∙◌, ap, subst, arith, ⊎_elim, length-append, drop, set}
use Rattle.std.specs.Prelude.{slice_get, Some, Contains, unwrap_or, AllPairs}
use Rattle.std.proofs.lemmas.Option.{slice_get_within, get_or_from_slice_get, slice_get-get_or, slice_get_read}
use Rattle.std.proofs.lemmas.Bool.{cases_lt}
use Rattle.std.proofs.lemmas.List.Elements.{Contains-append_left, Contains-append_right, Contains-append_cases}
use Rattle.lalrpop_collections.specs.Words.{AllDiffer}
use Rattle.lalrpop_collections.proofs.theory.lists.Members.{contains_head, contains_tail, contains-cons}
pub use Rattle.lalrpop_collections.proofs.theory.states.KernelLemmas.{contains_at, slice_get-push_at}

pub slice_get-append_before : {X : Type 0} (xs ys : List X) (k : ℕ) → k < length xs → slice_get (xs ++ ys) k ≡ slice_get xs k
slice_get-append_before [] ys k l = absurd (omega arith)
slice_get-append_before (y ∷ xs) ys zero l = refl
slice_get-append_before (y ∷ xs) ys (suc k) l = slice_get-append_before xs ys k (omega arith)

pub slice_get-append_behind : {X : Type 0} (xs ys : List X) (k : ℕ) → slice_get (xs ++ ys) (length xs + k) ≡ slice_get ys k
slice_get-append_behind [] ys k = let e : 0 + k ≡ k = omega arith in ap (slice_get ys) e
slice_get-append_behind (x ∷ xs) ys k = let e : length (x ∷ xs) + k ≡ suc (length xs + k) = omega arith in ap (slice_get (x ∷ xs ++ ys)) e ∙ slice_get-append_behind xs ys k

pub slice_get-drop : {X : Type 0} (n : ℕ) (xs : List X) (k : ℕ) → slice_get (drop n xs) k ≡ slice_get xs (n + k)
slice_get-drop zero xs k = let e : k ≡ 0 + k = omega arith in ap (slice_get xs) e
slice_get-drop (suc n) [] k = refl
slice_get-drop (suc n) (x ∷ xs) k = let e : suc (n + k) ≡ suc n + k = omega arith in slice_get-drop n xs k ∙ ap (slice_get (x ∷ xs)) e

-- a value at a place of a list is at that place of a longer one
pub slice_get-longer : {X : Type 0} (xs ys : List X) (k : ℕ) (x : X) → slice_get xs k ≡ Some x → slice_get (xs ++ ys) k ≡ Some x
slice_get-longer xs ys k x h = slice_get-append_before xs ys k (slice_get_within xs k x h) ∙ h

pub same_some : {X : Type 0} (x y : X) → Some x ≡ Some y → x ≡ y
same_some x y e = ap (λ o. unwrap_or o x) e

-- a place in a list with one more value
pub push_cases : {X : Type 0} (xs : List X) (x : X) (k : ℕ) (y : X) → slice_get (xs ++ x ∷ []) k ≡ Some y → (slice_get xs k ≡ Some y) ⊎ ((k ≡ length xs) × (x ≡ y))
push_cases xs x k y h =
    let within : k < length (xs ++ x ∷ []) = slice_get_within (xs ++ x ∷ []) k y h in
    let longer : length (xs ++ x ∷ []) ≡ length xs + 1 = length-append xs (x ∷ []) in
    ⊎_elim
    (λ l. inl (sym (slice_get-append_before xs (x ∷ []) k l) ∙ h))
    (λ g.
    let here : k ≡ length xs = omega arith in
    inr (here, same_some x y (sym (slice_get-push_at xs x) ∙ ap (λ n. slice_get (xs ++ x ∷ []) n) (sym here) ∙ h)))
    (cases_lt k (length xs))

pub differ_from_apart : {X : Type 0} (xs : List X) → AllPairs (λ a b. a ≢ b) xs → AllDiffer xs
differ_from_apart xs a i j x l at_i at_j =
    a i j x l (slice_get_within xs j x at_j) (get_or_from_slice_get xs i x x at_i ∙ sym (get_or_from_slice_get xs j x x at_j))

pub apart_from_differ : {X : Type 0} (xs : List X) → AllDiffer xs → AllPairs (λ a b. a ≢ b) xs
apart_from_differ xs h i j d l m e = h i j (get_or xs i d) l (slice_get-get_or xs i d (omega arith)) (slice_get-get_or xs j d m ∙ ap Some (sym e))

-- ---- a value between others
module _ {X : Type 0} (front back : List X) (x : X) where
  pub midst : (y : X) → Contains (front ++ x ∷ back) y → (x ≡ y) ⊎ Contains (front ++ back) y
  midst y c = elim (Contains-append_cases front (x ∷ back) y c) [
    | inl f ↦ inr (Contains-append_left front back y f)
    | inr b ↦ elim (contains-cons x back y b) [ inl e ↦ inl e | inr d ↦ inr (Contains-append_right front back y d) ]
  ]

  pub around : (y : X) → Contains (front ++ back) y → Contains (front ++ x ∷ back) y
  around y c = elim (Contains-append_cases front back y c) [
    | inl f ↦ Contains-append_left front (x ∷ back) y f
    | inr b ↦ Contains-append_right front (x ∷ back) y (contains_tail x back y b)
  ]

  pub at_midst : Contains (front ++ x ∷ back) x
  at_midst = Contains-append_right front (x ∷ back) x (contains_head x back)

-- a value that is not in a list of different values may be added at its end
pub differ_push : {X : Type 0} (xs : List X) (x : X) → AllDiffer xs → ¬ Contains xs x → AllDiffer (xs ++ x ∷ [])
differ_push xs x d out i j y l at_i at_j = elim (push_cases xs x j y at_j) [
  | inl in_j ↦ elim (push_cases xs x i y at_i) [
    | inl in_i ↦ d i j y l in_i in_j
    | inr e ↦ let w = slice_get_within xs j y in_j in let m = e.0 in absurd (omega arith)
  ]
  | inr e ↦ elim (push_cases xs x i y at_i) [
    | inl in_i ↦ out (contains_at xs x i (in_i ∙ ap Some (sym e.1)))
    | inr f ↦ let m = e.0 in let n = f.0 in absurd (omega arith)
  ]
]

-- a value that is put at a place leaves the other places as they are
pub put_other : {X : Type 0} (xs : List X) (i j : ℕ) (v : X) → (j ≡ i → ⊥) → slice_get (set xs i v) j ≡ slice_get xs j
put_other [] i j v apart = refl
put_other (x ∷ xs) zero zero v apart = absurd (apart refl)
put_other (x ∷ xs) zero (suc j) v apart = refl
put_other (x ∷ xs) (suc i) zero v apart = refl
put_other (x ∷ xs) (suc i) (suc j) v apart = put_other xs i j v (λ e. apart (ap suc e))

-- the value that is read at a place is at that place
pub slice_get_at : {X : Type 0} (xs : List X) (i : ℕ) (x : X) → i < length xs → x ≡ get_or xs i x → slice_get xs i ≡ Some x
slice_get_at xs i x l e = slice_get_read xs (length xs) i x refl l e

-- ---- places in lists whose values differ, and in lists with more values
pub places_apart : (i j : ℕ) → (i < j) ⊎ ((j < i) ⊎ (i ≡ j))
places_apart zero zero = inr (inr refl)
places_apart zero (suc j) = inl (omega arith)
places_apart (suc i) zero = inr (inl (omega arith))
places_apart (suc i) (suc j) = elim (places_apart i j) [ inl l ↦ inl (omega arith) | inr r ↦ elim r [ inl l ↦ inr (inl (omega arith)) | inr e ↦ inr (inr (ap suc e)) ] ]

-- a value is at one place only, if all values differ
pub one_place : {X : Type 0} (xs : List X) → AllDiffer xs → (i j : ℕ) (x : X) → slice_get xs i ≡ Some x → slice_get xs j ≡ Some x → i ≡ j
one_place xs differ i j x at_i at_j = elim (places_apart i j) [
  | inl l ↦ absurd (differ i j x l at_i at_j)
  | inr r ↦ elim r [ inl l ↦ absurd (differ j i x l at_j at_i) | inr e ↦ e ]
]

-- a place of a list that is long enough has a value
pub filled : {X : Type 0} (xs : List X) (n : ℕ) → n < length xs → (x : X) × (slice_get xs n ≡ Some x)
filled [] n l = absurd (omega arith)
filled (x ∷ xs) zero l = (x, refl)
filled (x ∷ xs) (suc n) l = filled xs n (omega arith)

-- a value after the end of a list, in a longer list, was added
past : {X : Type 0} (old added : List X) (n : ℕ) (x : X) → length old ≤ n → slice_get (old ++ added) n ≡ Some x → Contains added x
past [] added n x l at = contains_at added x n at
past (y ∷ old) added zero x l at = absurd (omega arith)
past (y ∷ old) added (suc n) x l at = past old added n x (omega arith) at

pub in_added : {X : Type 0} (old added new : List X) (n : ℕ) → new ≡ old ++ added → length old ≤ n → n < length new → (x : X) × (slice_get new n ≡ Some x) × Contains added x
in_added {X} old added new n e from to =
    let x = filled new n to in
    (x.0, x.1, past old added n x.0 from (subst (λ (xs : List X). slice_get xs n ≡ Some x.0) e x.1))
