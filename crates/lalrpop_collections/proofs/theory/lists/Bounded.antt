-- A bound on the number of kernels, by the list of all lists of at most n elements. It needs no
-- order and no numbering.
use Rattle.std.proofs.Common.{◌≢◌, ℕ, zero, suc, ◌≤◌, inl, inr, List, [], ◌∷◌, length, map, sym, subst, arith}
use Rattle.std.specs.Prelude.{Contains, AllPairs}
use Rattle.std.specs.List.{flat_map}
use Rattle.std.proofs.lemmas.List.Elements.{Contains-append_left, Contains-append_right}
use Rattle.lalrpop_collections.proofs.theory.lists.Members.{Contains-none, contains_head, contains_tail, contains-cons, contains_map, pigeonhole}

-- all lists of at most n elements of a list
pub lists : {X : Type 0} → List X → ℕ → List (List X)
lists all zero = [] ∷ []
lists all (suc n) = [] ∷ flat_map (λ x. map (λ xs. x ∷ xs) (lists all n)) all

pub in_flat_map : {X Y : Type 0} (f : X → List Y) (xs : List X) (x : X) (y : Y) → Contains xs x → Contains (f x) y → Contains (flat_map f xs) y
in_flat_map f [] x y c d = absurd (Contains-none x c)
in_flat_map {X} {Y} f (z ∷ xs) x y c d = elim (contains-cons z xs x c) [
  | inl e ↦ let P : X → Type 0 = λ k. Contains (f k) y in Contains-append_left (f z) (flat_map f xs) y (subst P (sym e) d)
  | inr g ↦ Contains-append_right (f z) (flat_map f xs) y (in_flat_map f xs x y g d)
]

in_lists : {X : Type 0} (all : List X) (n : ℕ) (xs : List X) → length xs ≤ n → ((x : X) → Contains xs x → Contains all x) → Contains (lists all n) xs
unfolding lists
in_lists all zero [] l h = contains_head [] []
in_lists all zero (x ∷ xs) l h = absurd (omega arith)
in_lists all (suc n) [] l h = contains_head [] (flat_map (λ x. map (λ xs. x ∷ xs) (lists all n)) all)
in_lists all (suc n) (x ∷ xs) l h =
    let c = in_lists all n xs (omega (arith, l)) (λ y d. h y (contains_tail x xs y d)) in
    let f = in_flat_map (λ x. map (λ xs. x ∷ xs) (lists all n)) all x (x ∷ xs) (h x (contains_head x xs)) (contains_map (λ xs. x ∷ xs) (lists all n) xs c) in
    contains_tail [] (flat_map (λ x. map (λ xs. x ∷ xs) (lists all n)) all) (x ∷ xs) f

-- If kernels differ, and each has only elements of a list, without repeats, there are no more
-- kernels than such lists.
pub kernels_few : {X : Type 0} (all : List X) (known : List (List X)) → AllPairs (λ a b. a ≢ b) known → ((k : List X) → Contains known k → AllPairs (λ a b. a ≢ b) k) → ((k : List X) (x : X) → Contains known k → Contains k x → Contains all x) → length known ≤ length (lists all (length all))
kernels_few all known a s h = pigeonhole known (lists all (length all)) a (λ k c. in_lists all (length all) k (pigeonhole k all (s k c) (λ x d. h k x c d)) (λ x d. h k x c d))
