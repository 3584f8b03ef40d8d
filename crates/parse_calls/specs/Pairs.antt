-- Pairs of numbers in a list.
use Rattle.std.specs.Prelude.{ℕ, List, [], ◌∷◌}

-- the pairs of a list of numbers, in order; a last number alone is in no pair
abbrev pub pairs_of : List ℕ → List (ℕ × ℕ)
pairs_of [] = []
pairs_of (first ∷ []) = []
pairs_of (first ∷ second ∷ rest) = (first, second) ∷ pairs_of rest
