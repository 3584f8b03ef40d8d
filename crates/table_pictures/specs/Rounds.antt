-- Numbers that are reached over edges, in rounds. A number has a flag, which says whether it has
-- been reached. In each round, the flags go over one edge more (breadth-first search, Cormen,
-- Leiserson, Rivest and Stein, "Introduction to Algorithms", section 22.2).
use Rattle.std.specs.Prelude.{ℕ, zero, suc, ◌&&◌, not, Bool, true, false, List, [], ◌∷◌, ◌++◌, filter, get_or, set, if◌then◌else◌}

-- whether an edge leads from a number with its flag to one that has a flag that is not set
abbrev pub crosses : List Bool → ℕ × ℕ → Bool
crosses flags edge = get_or flags edge.0 false && not (get_or flags edge.1 true)

-- the new flags, with those at the ends of the edges that cross the old flags
abbrev pub sent_over : List Bool → List (ℕ × ℕ) → List Bool → List Bool
sent_over old [] new = new
sent_over old (edge ∷ edges) new = sent_over old edges (if crosses old edge then set new edge.1 true else new)

-- the flags after so many rounds
abbrev pub flags_after : List (ℕ × ℕ) → List Bool → ℕ → List Bool
flags_after edges flags zero = flags
flags_after edges flags (suc rounds) = sent_over (flags_after edges flags rounds) edges (flags_after edges flags rounds)

-- the edges that flags cross in so many rounds
abbrev pub edges_crossed : List (ℕ × ℕ) → List Bool → ℕ → List (ℕ × ℕ)
edges_crossed edges flags zero = []
edges_crossed edges flags (suc rounds) = edges_crossed edges flags rounds ++ filter (crosses (flags_after edges flags rounds)) edges
