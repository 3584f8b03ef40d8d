-- Lists, as the theory takes them apart: the symbols before and after a dot, the last element, and
-- the elements at places.
use Rattle.std.proofs.Common.{◌≡◌, ℕ, zero, suc, ◌<◌, ◌⊎◌, inl, inr, List, [], ◌∷◌, ◌++◌, take, drop, length, sym, subst, refl, ap, ap₂, Option, Some, None, unwrap_or, arith, map, ◌∙◌}
use Rattle.std.specs.Prelude.{Contains, slice_index_or, slice_get, option_map}
use mathlib.Core.List.{head-eq_of_cons-eq, tail-eq_of_cons-eq, nil≢cons, cons≢nil}
use Rattle.std.proofs.lemmas.Option.{slice_get-map}

-- if x is after a dot, the rest is after the next dot
pub drop_past : {A : Type 0} (n : ℕ) (xs : List A) {x : A} {after : List A} → drop n xs ≡ x ∷ after → drop (suc n) xs ≡ after
drop_past zero [] e = absurd (nil≢cons e)
drop_past zero (y ∷ xs) e = tail-eq_of_cons-eq e
drop_past (suc n) [] e = absurd (nil≢cons e)
drop_past (suc n) (y ∷ xs) e = drop_past n xs e

-- if x is after a dot, the next dot has x more before it
pub take_past : {A : Type 0} (n : ℕ) (xs : List A) {x : A} {after : List A} → drop n xs ≡ x ∷ after → take (suc n) xs ≡ take n xs ++ x ∷ []
take_past zero [] e = absurd (nil≢cons e)
take_past zero (y ∷ xs) e = ap (λ z. z ∷ []) (head-eq_of_cons-eq e)
take_past (suc n) [] e = absurd (nil≢cons e)
take_past (suc n) (y ∷ xs) e = ap (λ zs. y ∷ zs) (take_past n xs e)

-- nothing is after the dot at the end
pub drop_all : {A : Type 0} (xs : List A) → drop (length xs) xs ≡ []
drop_all [] = refl
drop_all (x ∷ xs) = drop_all xs

-- all elements are before the dot at the end
pub take_all : {A : Type 0} (xs : List A) → take (length xs) xs ≡ xs
take_all [] = refl
take_all (x ∷ xs) = ap (λ ys. x ∷ ys) (take_all xs)

-- a list is empty, or has a last element
pub data Ended {A : Type 0} : List A → Type 0 where
  nothing : Ended []
  last : (l : List A) (x : A) → Ended (l ++ x ∷ [])

-- each list is empty, or has a last element
pub ended : {A : Type 0} (l : List A) → Ended l
ended [] = nothing
ended {A} (x ∷ l) = go (ended l)
  where
    go : {k : List A} → Ended k → Ended (x ∷ k)
    go nothing = last [] x
    go (last k y) = last (x ∷ k) y

-- equal lists with a last element have equal beginnings and equal last elements
pub same_last : {A : Type 0} (xs ys : List A) {x y : A} → xs ++ x ∷ [] ≡ ys ++ y ∷ [] → (xs ≡ ys) × (x ≡ y)
same_last [] [] e = (refl, head-eq_of_cons-eq e)
same_last [] (z ∷ []) e = absurd (nil≢cons (tail-eq_of_cons-eq e))
same_last [] (z ∷ w ∷ ys) e = absurd (nil≢cons (tail-eq_of_cons-eq e))
same_last (z ∷ []) [] e = absurd (cons≢nil (tail-eq_of_cons-eq e))
same_last (z ∷ w ∷ xs) [] e = absurd (cons≢nil (tail-eq_of_cons-eq e))
same_last (z ∷ xs) (w ∷ ys) e =
    let r = same_last xs ys (tail-eq_of_cons-eq e) in
    (ap₂ (λ a l. a ∷ l) (head-eq_of_cons-eq e) r.0, r.1)

-- a list with a last element is not empty
pub nil≢more : {A : Type 0} (v l : List A) (x : A) → [] ≡ v ++ (l ++ x ∷ []) → ⊥
nil≢more [] [] x e = nil≢cons e
nil≢more [] (y ∷ l) x e = nil≢cons e
nil≢more (y ∷ v) l x e = nil≢cons e

-- one more element makes a list longer by one
pub length-more : {A : Type 0} (l : List A) (x : A) → length (l ++ x ∷ []) ≡ suc (length l)
length-more [] x = refl
length-more (y ∷ l) x = ap suc (length-more l x)

-- a list is made by adding elements at its end
pub data Grown {A : Type 0} : List A → Type 0 where
  from_nothing : Grown []
  more : {l : List A} (x : A) → Grown l → Grown (l ++ x ∷ [])

-- a list that is made so, with a head put before it, is made so too
pub grown-cons : {A : Type 0} (x : A) {l : List A} → Grown l → Grown (x ∷ l)
grown-cons x from_nothing = more x from_nothing
grown-cons x (more y k) = more y (grown-cons x k)

-- each list is made so
pub grown : {A : Type 0} (l : List A) → Grown l
grown [] = from_nothing
grown (x ∷ l) = grown-cons x (grown l)

-- an option has at most one value
pub same_some : {A : Type 0} {a b : A} → Some a ≡ Some b → a ≡ b
same_some {a = a} e = ap (λ o. unwrap_or o a) e

-- an option has a value
abbrev pub IsSome' : {A : Type 0} → Option A → Type 0
IsSome' None = ⊥
IsSome' (Some a) = Unit {0}

-- an option does not both have a value and have none
pub some≢none : {A : Type 0} {a : A} → Some a ≡ None → ⊥
some≢none e = subst IsSome' e tt

-- an element of a longer list is its head or an element of its tail
pub contains-cons : {A : Type 0} (y : A) (ys : List A) (x : A) → Contains (y ∷ ys) x → (y ≡ x) ⊎ Contains ys x
contains-cons {A} y ys x h = go h.0 h.1 h.2
  where
    go : (k : ℕ) → k < length (y ∷ ys) → slice_index_or (y ∷ ys) k x ≡ x → (y ≡ x) ⊎ Contains ys x
    go zero l e = inl e
    go (suc k) l e = inr (k, omega arith, e)

-- an empty list has no element
pub contains-nil : {A : Type 0} {x : A} → Contains [] x → ⊥
contains-nil h = let l : h.0 < 0 = h.1 in omega arith

-- the head is an element
pub contains_head : {A : Type 0} (x : A) (xs : List A) → Contains (x ∷ xs) x
contains_head x xs = (zero, omega arith, refl)

-- each element of the tail is an element
pub contains_tail : {A : Type 0} (y : A) (ys : List A) (x : A) → Contains ys x → Contains (y ∷ ys) x
contains_tail y ys x h = (suc h.0, omega (arith, h.1), h.2)

-- an element is at a place
pub contains_place : {A : Type 0} (xs : List A) (x : A) → Contains xs x → (k : ℕ) × (slice_get xs k ≡ Some x)
contains_place [] x h = absurd (contains-nil h)
contains_place (y ∷ ys) x h = elim (contains-cons y ys x h) [
  | inl e ↦ (zero, ap (λ z. Some z) e)
  | inr k ↦ let r = contains_place ys x k in (suc r.0, r.1)
]

-- the value at a place is an element
pub place_contains : {A : Type 0} (xs : List A) (k : ℕ) (x : A) → slice_get xs k ≡ Some x → Contains xs x
place_contains [] k x e = absurd (some≢none (sym e))
place_contains (y ∷ ys) zero x e = (zero, omega arith, same_some e)
place_contains (y ∷ ys) (suc k) x e = let r = place_contains ys k x e in (suc r.0, omega (arith, r.1), r.2)

pub some_of_map : {X Y : Type 0} (f : X → Y) (o : Option X) (y : Y) → option_map f o ≡ Some y → (x : X) × (o ≡ Some x) × (f x ≡ y)
some_of_map f None y e = cc
some_of_map f (Some x) y e = (x, refl, ap (λ o. unwrap_or o y) e)

pub contains_of_map : {X Y : Type 0} (f : X → Y) (xs : List X) (y : Y) → Contains (map f xs) y → (x : X) × Contains xs x × (f x ≡ y)
contains_of_map f xs y h =
    let (k, e) = contains_place (map f xs) y h in
    let (x, there, same) = some_of_map f (slice_get xs k) y (sym (slice_get-map f xs k) ∙ e) in
    (x, place_contains xs k x there, same)

pub contains_map : {X Y : Type 0} (f : X → Y) (xs : List X) (x : X) → Contains xs x → Contains (map f xs) (f x)
contains_map f xs x h =
    let (k, e) = contains_place xs x h in
    place_contains (map f xs) k (f x) (slice_get-map f xs k ∙ ap (option_map f) e)
