-- Texts in which no byte passes a test.
use Rattle.std.proofs.Common.{◌≡◌, ◌<◌, ◌+◌, ℕ, suc, Bool, true, false, List, [], ◌∷◌, ◌++◌, cond, length, get_or, refl, ap, ◌∙◌, arith, count_by}
use Rattle.std.proofs.lemmas.List.Sums.{sum_by-append, sum_by-cons}
use Rattle.std.specs.List.{flat_map}

-- if no byte passes the test, the count is 0
pub none_counted : (p : ℕ → Bool) (xs : List ℕ) → ((k : ℕ) → k < length xs → p (get_or xs k 0) ≡ false) → count_by p xs ≡ 0
none_counted p [] each = refl
none_counted p (x ∷ xs) each =
    sum_by-cons (λ y. cond (p y) 1 0) x xs ∙ ap (λ t. cond t 1 0 + count_by p xs) (each 0 (omega arith)) ∙ ap (λ n. 0 + n) (none_counted p xs (λ k inside. each (suc k) (omega arith)))

-- if no piece has a byte that passes, the whole text has none
pub none_in_pieces : (p : ℕ → Bool) (f : ℕ → List ℕ) (xs : List ℕ) → ((x : ℕ) → count_by p (f x) ≡ 0) → count_by p (flat_map f xs) ≡ 0
none_in_pieces p f [] each = refl
none_in_pieces p f (x ∷ xs) each =
    sum_by-append (λ y. cond (p y) 1 0) (f x) (flat_map f xs) ∙ ap (λ n. n + count_by p (flat_map f xs)) (each x) ∙ ap (λ n. 0 + n) (none_in_pieces p f xs each)

-- a text has as many such bytes as before if the piece that is written after it has none
pub as_many : (p : ℕ → Bool) (old piece new : List ℕ) → new ≡ old ++ piece → count_by p piece ≡ 0 → count_by p new ≡ count_by p old
as_many p old piece new grew none = omega (arith, ap (count_by p) grew ∙ sum_by-append (λ y. cond (p y) 1 0) old piece, none)

-- if each of two pieces has no such byte, the piece that is chosen by a test has none
pub chosen : (p : ℕ → Bool) (t : Bool) (a b : List ℕ) → count_by p a ≡ 0 → (t ≡ false → count_by p b ≡ 0) → count_by p (cond t a b) ≡ 0
chosen p true a b x y = x
chosen p false a b x y = y refl
