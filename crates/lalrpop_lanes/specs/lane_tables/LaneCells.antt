-- The cells of a lane table.
use Rattle.std.specs.Prelude.{◌<◌, ℕ, List, Contains}
use Rattle.lalrpop_base.specs.Words.{Bits}
use Rattle.lalrpop_states.specs.declared.lr1_core.state.StateIndex.{StateIndex}
use Rattle.lalrpop_lanes.specs.declared.lane_table.context_set.ConflictIndex.{ConflictIndex}

-- each cell is in a column below the count
abbrev pub AreBelow : ℕ → List ((StateIndex × ConflictIndex) × Bits) → Type 0
AreBelow count cells = (row : StateIndex) (column : ConflictIndex) (set : Bits) → Contains cells ((row, column), set) → column.index < count
