-- Lines of a text by offsets.
use Rattle.std.specs.Prelude.{◌==◌, ℕ, ◌+◌, Bool, List, length, filter, take}

-- whether a byte ends a line
abbrev pub is_line_end : ℕ → Bool
is_line_end b = b == 10

-- the number of the line in which an offset is: one more than the number of line ends before it
abbrev pub line_at : List ℕ → ℕ → ℕ
line_at text offset = length (filter is_line_end (take offset text)) + 1
