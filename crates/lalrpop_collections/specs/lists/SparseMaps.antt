-- Sparse sets: a list of numbers in the order in which they come, and for each number its place in
-- that list (Briggs and Torczon, An efficient representation for sparse sets, 1993).
use Rattle.std.specs.Prelude.{◌≡◌, ℕ, List, slice_get, Some}

-- the place of the number of each entry is the place of that entry
abbrev pub AreEntryPlaces : {V : Type 0} → List ℕ → List (ℕ × V) → Type 0
AreEntryPlaces {V} places entries = (place : ℕ) (e : ℕ × V) → slice_get entries place ≡ Some e → slice_get places e.0 ≡ Some place
