-- Lists in two parts: the elements that pass a test, and after them the others. Both parts are in
-- the order of the list.
use Rattle.std.specs.Prelude.{◌≡◌, ◌<◌, ◌+◌, ℕ, Bool, not, cond, List, ◌++◌, length, take, slice_get, Option, Some, None}
use Rattle.std.specs.List.{filter}

module _ {X : Type 0} (passes : X → Bool) where
  -- the number of the first k elements that pass
  abbrev pub rank : List X → ℕ → ℕ
  rank xs k = length (filter passes (take k xs))

module _ {X : Type 0} (passes : X → Bool) where
  -- an element does not pass
  abbrev pub fails : X → Bool
  fails x = not (passes x)

  -- the elements that pass, and after them the others
  abbrev pub parted : List X → List X
  parted xs = filter passes xs ++ filter fails xs

  -- the place in the parted list of an element that was at place k, and k if there is none
  abbrev pub parted_place : List X → ℕ → Option X → ℕ
  parted_place xs k None = k
  parted_place xs k (Some x) = cond (passes x) (rank passes xs k) (length (filter passes xs) + rank fails xs k)

  -- the place in the parted list of the element at a place. A place past the end stays
  abbrev pub new_place : List X → ℕ → ℕ
  new_place xs k = parted_place xs k (slice_get xs k)

  -- the new places of the first n elements
  pub record ArePlaces (xs : List X) (n : ℕ) (places : List ℕ) : Type 0 where
    pub counted : length places ≡ n
    pub each : (k : ℕ) → k < n → slice_get places k ≡ Some (new_place xs k)
