-- Lists of lists without repeats.
use Rattle.std.proofs.Common.{◌≡◌, inl, inr, List, [], ◌∷◌, ◌++◌, reverse, sym, ◌∙◌, ap, subst, append_assoc}
use Rattle.std.specs.Prelude.{Contains}
use Rattle.std.specs.List.{flat_map}
use Rattle.std.proofs.lemmas.List.{reverse-append}
use mathlib.Core.List.{tail-eq_of_cons-eq}
use Rattle.lalrpop_collections.proofs.theory.lists.Lists.{contains-cons, contains-nil}
use Rattle.lalrpop_collections.proofs.theory.lists.Apart.{Apart, Apart-append}
use Rattle.lalrpop_collections.proofs.theory.lists.Members.{of_flat, Contains-from_reverse}

pub apart_one : {A : Type 0} (x : A) → Apart (x ∷ [])
apart_one x = (λ c. contains-nil c, tt)

pub apart_reverse : {A : Type 0} (xs : List A) → Apart xs → Apart (reverse xs)
apart_reverse [] h = tt
apart_reverse {A} (x ∷ xs) h =
    subst Apart (sym (reverse-append (x ∷ []) xs))
    (Apart-append (reverse xs) (x ∷ []) (apart_reverse xs h.1) (apart_one x)
    (λ y c d. elim (contains-cons x [] y d) [ inl e ↦ h.0 (subst (λ (z : A). Contains xs z) (sym e) (Contains-from_reverse xs y c)) | inr n ↦ contains-nil n ]))

-- joined lists have no repeats if none of them has, and no two have an element in common
pub apart_flat_map : {A B : Type 0} (f : A → List B) (xs : List A) → Apart xs → ((x : A) → Apart (f x)) → ((x y : A) (p : B) → Contains (f x) p → Contains (f y) p → x ≡ y) → Apart (flat_map f xs)
apart_flat_map f [] h each differ = tt
apart_flat_map {A} {B} f (x ∷ xs) h each differ =
    Apart-append (f x) (flat_map f xs) (each x) (apart_flat_map f xs h.1 each differ)
    (λ p c d. let r = of_flat f xs p d in h.0 (subst (λ (z : A). Contains xs z) (sym (differ x r.0 p c r.2)) r.1))

-- lists that are equal after the same front are equal
pub same_behind : {A : Type 0} (front xs ys : List A) → front ++ xs ≡ front ++ ys → xs ≡ ys
same_behind [] xs ys e = e
same_behind (z ∷ front) xs ys e = same_behind front xs ys (tail-eq_of_cons-eq e)

-- an element at the end of a front comes before what follows
pub reverse_more : {A : Type 0} (x : A) (xs rest : List A) → reverse (x ∷ xs) ++ rest ≡ reverse xs ++ (x ∷ rest)
reverse_more x xs rest = ap (λ ys. ys ++ rest) (reverse-append (x ∷ []) xs) ∙ append_assoc (reverse xs) (x ∷ []) rest
