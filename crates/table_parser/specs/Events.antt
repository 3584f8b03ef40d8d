-- The steps of a run as events, by the numbers of a parse table.
use Rattle.std.specs.Prelude.{ℕ, ◌+◌, List, [], ◌∷◌, length}
use Rattle.lalrpop_base.specs.Words.{Tree, beside, leaves, no_trees}

-- an event is a shift of the terminal with a bit, at a position of the input; or a reduction by the
-- production with a number, whose right side has so many symbols, of the terminals from one position
-- up to another
pub data Event : Type 0 where
  Shifted : ℕ → ℕ → Event
  Reduced : ℕ → ℕ → ℕ → ℕ → Event

-- how many terminals the trees of a stack have
abbrev pub width : List Tree → ℕ
width [] = 0
width (t ∷ trees) = length (leaves (beside t no_trees)) + width trees

-- the position at which each tree of a stack begins: the trees below it have so many terminals
abbrev pub starts : List Tree → List ℕ
starts [] = []
starts (t ∷ trees) = width trees ∷ starts trees
