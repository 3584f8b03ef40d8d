-- Paths over edges. An edge is a pair of numbers: of the state that it leaves and of that to which
-- it leads.
use Rattle.std.specs.Prelude.{◌≡◌, ℕ, zero, suc, ◌+◌, ◌<◌, ◌≤◌, ◌⊎◌, ◌↔◌, Bool, false, IsTrue, List, Contains, get_or}

-- a path of so many edges leads from the number to another
abbrev pub IsEdgePath : List (ℕ × ℕ) → ℕ → ℕ → ℕ → Type 0
IsEdgePath edges from zero to = from ≡ to
IsEdgePath edges from (suc count) to = (between : ℕ) × IsEdgePath edges from count between × Contains edges (between, to)

-- a path of at most so many edges leads from the number to another
abbrev pub IsWithin : List (ℕ × ℕ) → ℕ → ℕ → ℕ → Type 0
IsWithin edges from most to = (count : ℕ) × (count ≤ most) × IsEdgePath edges from count to

-- a path of at most so many edges leads from the first number to the second, or back
abbrev pub IsNear : List (ℕ × ℕ) → ℕ → ℕ → ℕ → Type 0
IsNear edges number most other = IsWithin edges number most other ⊎ IsWithin edges other most number

-- the edge in the other direction
abbrev pub turned : ℕ × ℕ → ℕ × ℕ
turned edge = (edge.1, edge.0)

-- the edges begin and end at numbers below the limit
abbrev pub AreEdgesBelow : ℕ → List (ℕ × ℕ) → Type 0
AreEdgesBelow limit edges = (from to : ℕ) → Contains edges (from, to) → (from < limit) × (to < limit)

-- the flags of exactly the numbers are set that are near the number
abbrev pub AreNear : List (ℕ × ℕ) → ℕ → ℕ → List Bool → Type 0
AreNear edges number most flags = (other : ℕ) → IsTrue (get_or flags other false) ↔ IsNear edges number most other

-- a number is on a shortest path from the start to an end. A path leads to the number, and one leads
-- from it to the end. No path from the start to that end has fewer edges than both together
pub record IsOnShortest (edges : List (ℕ × ℕ)) (start : ℕ) (is_end : ℕ → Bool) (number : ℕ) : Type 0 where
  pub end : ℕ
  pub is_there : IsTrue (is_end end)
  pub before : ℕ
  pub after : ℕ
  pub led : IsEdgePath edges start before number
  pub goes_on : IsEdgePath edges number after end
  pub shortest : (count : ℕ) → IsEdgePath edges start count end → before + after ≤ count

-- the flags of exactly the numbers are set that are on shortest paths from the start to ends
abbrev pub AreOnShortest : List (ℕ × ℕ) → ℕ → (ℕ → Bool) → List Bool → Type 0
AreOnShortest edges start is_end flags = (number : ℕ) → IsTrue (get_or flags number false) ↔ IsOnShortest edges start is_end number
