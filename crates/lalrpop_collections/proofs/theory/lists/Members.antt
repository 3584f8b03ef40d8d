-- Membership by cases on the list, and the pigeonhole.
use Rattle.std.proofs.Common.{◌≡◌, ◌≢◌, ℕ, zero, suc, ◌<◌, ◌≤◌, ◌⊎◌, inl, inr, List, [], ◌∷◌, length, get_or, refl, sym, zero-add, ap, subst, ◌∙◌, arith, Some, take, reverse}
use Rattle.std.specs.Prelude.{Contains, AllPairs, slice_get}
use Rattle.std.specs.declared.cmp.Ordering.{Ordering}
use Rattle.std.specs.declared.cmp.Ordering.TheVariants.{Less, Equal, Greater}
use Rattle.std.specs.Ordering.{match_ordering, ordering_reverse}
use Rattle.std.specs.List.{range_with_len, flat_map, AllZip}
use Rattle.std.specs.List.Sorted.{IsStrictlySortedBy}
use Rattle.std.specs.Cmp.{IsTotalOrder}
use Rattle.std.proofs.lemmas.List.{reverse-append, reverse-reverse}
use Rattle.std.proofs.lemmas.List.Elements.{Contains-append_left, Contains-append_right, Contains-append_cases}
use Rattle.std.proofs.lemmas.Map.Keys.{Less-from_sorted}
use Rattle.std.proofs.lemmas.List.FromFn.{length-range_with_len, get_or-range_with_len}
use Rattle.std.specs.BTreeSet.{insert_key}
use Rattle.std.proofs.lemmas.Map.Lookups.{CmpEqualImpliesEq}
pub use Rattle.lalrpop_collections.proofs.theory.lists.Lists.{contains-cons, contains_head, contains_tail}
pub use Rattle.lalrpop_collections.proofs.theory.lists.Lists.{contains_map}

data Member {X : Type 0} : X → List X → Type 0 where
  here : {x : X} {xs : List X} → Member x (x ∷ xs)
  there : {x y : X} {xs : List X} → Member x xs → Member x (y ∷ xs)

pub Contains-none : {X : Type 0} (x : X) → Contains [] x → ⊥
Contains-none x h = absurd (omega (arith, h.1))

pub Contains-take : {X : Type 0} (n : ℕ) (xs : List X) (x : X) → Contains (take n xs) x → Contains xs x
Contains-take zero xs x c = absurd (Contains-none x c)
Contains-take (suc n) [] x c = absurd (Contains-none x c)
Contains-take (suc n) (y ∷ xs) x c = elim (contains-cons y (take n xs) x c) [ inl e ↦ subst (Contains (y ∷ xs)) e (contains_head y xs) | inr d ↦ contains_tail y xs x (Contains-take n xs x d) ]

member-here : {X : Type 0} (y x : X) (xs : List X) → y ≡ x → Member x (y ∷ xs)
member-here {X} y x xs e = let P : X → Type 0 = λ z. Member z (y ∷ xs) in subst P e here

member : {X : Type 0} (xs : List X) (x : X) → Contains xs x → Member x xs
member [] x h = absurd (Contains-none x h)
member (y ∷ xs) x h = elim (contains-cons y xs x h) [ inl e ↦ member-here y x xs e | inr g ↦ there (member xs x g) ]

cut : {X : Type 0} {x : X} {xs : List X} → Member x xs → List X
cut (here {x} {xs}) = xs
cut (there {x} {y} m) = y ∷ cut m

length-cut : {X : Type 0} {x : X} {xs : List X} (m : Member x xs) → length xs ≡ suc (length (cut m))
unfolding cut
length-cut here = refl
length-cut (there m) = ap suc (length-cut m)

stays : {X : Type 0} {x y : X} {xs : List X} (m : Member x xs) → Member y xs → y ≢ x → Member y (cut m)
unfolding cut
stays here here ne = absurd (ne refl)
stays here (there n) ne = n
stays (there m) here ne = here
stays (there m) (there n) ne = there (stays m n ne)

-- no two elements of xs are the same, by cases
data Apart {X : Type 0} : List X → Type 0 where
  none : Apart []
  more : {x : X} {xs : List X} → ((y : X) → Member y xs → y ≢ x) → Apart xs → Apart (x ∷ xs)

fits : {X : Type 0} (xs ys : List X) → Apart xs → ((x : X) → Member x xs → Member x ys) → length xs ≤ length ys
fits [] ys a h = omega arith
fits (x ∷ xs) ys (more far a) h =
    let m = h x here in
    let n = fits xs (cut m) a (λ y g. stays m (h y (there g)) (far y g)) in
    omega (arith, length-cut m)

contains : {X : Type 0} {x : X} {xs : List X} → Member x xs → Contains xs x
contains (here {x} {xs}) = contains_head x xs
contains (there {x} {y} {xs} m) = contains_tail y xs x (contains m)

AllPairs-head : {X : Type 0} (x : X) (xs : List X) → AllPairs (λ a b. a ≢ b) (x ∷ xs) → (y : X) → Contains xs y → y ≢ x
AllPairs-head x xs h y c e = h zero (suc c.0) y (omega arith) (omega (arith, c.1)) (sym (c.2 ∙ e))

AllPairs-tail : {X : Type 0} (x : X) (xs : List X) → AllPairs (λ a b. a ≢ b) (x ∷ xs) → AllPairs (λ a b. a ≢ b) xs
AllPairs-tail x xs h i j d l m = h (suc i) (suc j) d (omega (arith, l)) (omega (arith, m))

apart : {X : Type 0} (xs : List X) → AllPairs (λ a b. a ≢ b) xs → Apart xs
apart [] h = none
apart (x ∷ xs) h = more (λ y m. AllPairs-head x xs h y (contains m)) (apart xs (AllPairs-tail x xs h))

-- a list without repeats is no longer than a list that has all its elements
pub pigeonhole : {X : Type 0} (xs ys : List X) → AllPairs (λ a b. a ≢ b) xs → ((x : X) → Contains xs x → Contains ys x) → length xs ≤ length ys
pigeonhole xs ys a h = fits xs ys (apart xs a) (λ x m. member ys x (h x (contains m)))

pub slice_get-cases : {X : Type 0} (xs : List X) (x : X) (k : ℕ) → k < length xs → get_or xs k x ≡ x → slice_get xs k ≡ Some x
slice_get-cases [] x k l e = absurd (omega arith)
slice_get-cases (y ∷ xs) x zero l e = ap Some e
slice_get-cases (y ∷ xs) x (suc k) l e = slice_get-cases xs x k (omega (arith, l)) e

-- the place of an element
pub place : {X : Type 0} (xs : List X) (x : X) → Contains xs x → (k : ℕ) × (k < length xs) × (slice_get xs k ≡ Some x)
place xs x h = (h.0, h.1, slice_get-cases xs x h.0 h.1 h.2)

-- ---- a key is put into a set
module _ {K : Type 0} (cmp : K → K → Ordering) where
  kept_at : (x : K) (xs : List K) (k i : K) (o : Ordering) → Contains (x ∷ xs) i → (Contains xs i → Contains (insert_key cmp xs k) i) → Contains (match_ordering o (k ∷ x ∷ xs) (x ∷ xs) (x ∷ insert_key cmp xs k)) i
  kept_at x xs k i Less c h = contains_tail k (x ∷ xs) i c
  kept_at x xs k i Equal c h = c
  kept_at x xs k i Greater c h = elim (contains-cons x xs i c) [ inl e ↦ rw (← e) (contains_head x (insert_key cmp xs k)) | inr g ↦ contains_tail x (insert_key cmp xs k) i (h g) ]

  pub insert_key-kept : (xs : List K) (k i : K) → Contains xs i → Contains (insert_key cmp xs k) i
  insert_key-kept [] k i c = absurd (Contains-none i c)
  insert_key-kept (x ∷ xs) k i c = kept_at x xs k i (cmp k x) c (insert_key-kept xs k i)

  from_at : (x : K) (xs : List K) (k i : K) (o : Ordering) → (Contains (insert_key cmp xs k) i → Contains xs i ⊎ (k ≡ i)) → Contains (match_ordering o (k ∷ x ∷ xs) (x ∷ xs) (x ∷ insert_key cmp xs k)) i → Contains (x ∷ xs) i ⊎ (k ≡ i)
  from_at x xs k i Less h c = elim (contains-cons k (x ∷ xs) i c) [ inl e ↦ inr e | inr g ↦ inl g ]
  from_at x xs k i Equal h c = inl c
  from_at x xs k i Greater h c = elim (contains-cons x (insert_key cmp xs k) i c) [ inl e ↦ inl (rw (← e) (contains_head x xs)) | inr g ↦ elim (h g) [ inl f ↦ inl (contains_tail x xs i f) | inr e ↦ inr e ] ]

  pub insert_key-from : (xs : List K) (k i : K) → Contains (insert_key cmp xs k) i → Contains xs i ⊎ (k ≡ i)
  insert_key-from [] k i c = elim (contains-cons k [] i c) [ inl e ↦ inr e | inr g ↦ absurd (Contains-none i g) ]
  insert_key-from (x ∷ xs) k i c = from_at x xs k i (cmp k x) (insert_key-from xs k i) c

module _ {K : Type 0} (cmp : K → K → Ordering) (exact : CmpEqualImpliesEq cmp) where
  put_at : (x : K) (xs : List K) (k : K) (o : Ordering) → cmp k x ≡ o → Contains (insert_key cmp xs k) k → Contains (match_ordering o (k ∷ x ∷ xs) (x ∷ xs) (x ∷ insert_key cmp xs k)) k
  put_at x xs k Less e h = contains_head k (x ∷ xs)
  put_at x xs k Equal e h = rw (exact k x e) (contains_head x xs)
  put_at x xs k Greater e h = contains_tail x (insert_key cmp xs k) k h

  pub insert_key-has : (xs : List K) (k : K) → Contains (insert_key cmp xs k) k
  insert_key-has [] k = contains_head k []
  insert_key-has (x ∷ xs) k = put_at x xs k (cmp k x) refl (insert_key-has xs k)

-- ---- ordered lists
pub less-apart : {K : Type 0} (cmp : K → K → Ordering) → IsTotalOrder cmp → (x y : K) → cmp x y ≡ Less → x ≡ y → ⊥
less-apart {K} cmp o x y h e =
    let P : K → Type 0 = λ z. cmp z y ≡ Less in
    let g = subst P e h in
    let k : Less ≡ Greater = sym g ∙ o.antisymm y y ∙ ap ordering_reverse g in
    cc

pub apart-from_sorted : {K : Type 0} (cmp : K → K → Ordering) → IsTotalOrder cmp → (ks : List K) → IsStrictlySortedBy cmp ks → AllPairs (λ a b. a ≢ b) ks
apart-from_sorted cmp o ks s i j d l m = less-apart cmp o (get_or ks i d) (get_or ks j d) (Less-from_sorted cmp ks i j d s l m)

pub Contains-reverse : {X : Type 0} (xs : List X) (x : X) → Contains xs x → Contains (reverse xs) x
Contains-reverse [] x c = absurd (Contains-none x c)
Contains-reverse (y ∷ xs) x c =
    rw (reverse-append (y ∷ []) xs) (elim (contains-cons y xs x c) [ inl e ↦ Contains-append_right (reverse xs) (y ∷ []) x (rw (← e) (contains_head y [])) | inr d ↦ Contains-append_left (reverse xs) (y ∷ []) x (Contains-reverse xs x d) ])

pub Contains-from_reverse : {X : Type 0} (xs : List X) (x : X) → Contains (reverse xs) x → Contains xs x
Contains-from_reverse xs x c = rw reverse-reverse at (Contains-reverse (reverse xs) x c)

pub Contains-range : (n p : ℕ) → p < n → Contains (range_with_len 0 n) p
Contains-range n p l = (p, rw length-range_with_len l, get_or-range_with_len 0 n p p l ∙ zero-add p)

-- an element of a joined list of lists is an element of one of them
pub of_flat : {X Y : Type 0} (f : X → List Y) (xs : List X) (y : Y) → Contains (flat_map f xs) y → (x : X) × Contains xs x × Contains (f x) y
of_flat f [] y c = absurd (Contains-none y c)
of_flat f (x ∷ xs) y c = elim (Contains-append_cases (f x) (flat_map f xs) y c) [
  | inl first ↦ (x, contains_head x xs, first)
  | inr later ↦ let r = of_flat f xs y later in (r.0, contains_tail x xs r.0 r.1, r.2)
]

pub zipped_length : {X Y : Type 0} (R : X → Y → Type 0) (xs : List X) (ys : List Y) → AllZip R xs ys → length ys ≡ length xs
zipped_length R [] [] z = refl
zipped_length R [] (w ∷ ys) z = absurd z
zipped_length R (x ∷ xs) [] z = absurd z
zipped_length R (x ∷ xs) (w ∷ ys) z = ap suc (zipped_length R xs ys z.1)
