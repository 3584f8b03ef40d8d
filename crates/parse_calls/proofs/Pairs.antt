-- The pairs of a list, one after the other.
use Rattle.std.proofs.Common.{◌≡◌, ◌+◌, ◌*◌, ◌<◌, ℕ, List, [], ◌∷◌, drop, length, get_or, refl, ap, ◌∙◌, arith}
use Rattle.std.proofs.lemmas.List.{drop_more, length-drop}
use Rattle.parse_calls.specs.Pairs.{pairs_of}

-- the next pair, and those after it
pub next_pair : (xs : List ℕ) (k : ℕ) → 2 * k + 1 < length xs → pairs_of (drop (2 * k) xs) ≡ (get_or xs (2 * k) 0, get_or xs (2 * k + 1) 0) ∷ pairs_of (drop (2 * (k + 1)) xs)
next_pair xs k within =
    let first : 2 * k < length xs = omega arith in
    let one = drop_more xs (2 * k) 0 first in
    let two = drop_more xs (2 * k + 1) 0 within in
    let place : 2 * k + 1 + 1 ≡ 2 * (k + 1) = omega arith in
    ap pairs_of (one ∙ ap (λ (r : List ℕ). get_or xs (2 * k) 0 ∷ r) two)
    ∙ ap (λ n. (get_or xs (2 * k) 0, get_or xs (2 * k + 1) 0) ∷ pairs_of (drop n xs)) place

-- fewer than two numbers have no pair
few : (xs : List ℕ) → length xs < 2 → pairs_of xs ≡ []
few [] l = refl
few (x ∷ []) l = refl
few (x ∷ y ∷ xs) l = absurd (omega arith)

-- no pair is left at the end
pub no_pair : (xs : List ℕ) (k : ℕ) → length xs < 2 * k + 2 → pairs_of (drop (2 * k) xs) ≡ []
no_pair xs k l = few (drop (2 * k) xs) (omega (arith, length-drop (2 * k) xs))
