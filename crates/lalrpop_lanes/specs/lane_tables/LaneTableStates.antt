-- The states of a lane table: those that are successors, and edges that are closed.
use Rattle.std.specs.Prelude.{◌<◌, ◌↔◌, ℕ, List, Contains}
use Rattle.lalrpop_states.specs.declared.lr1_core.state.StateIndex.{StateIndex}
use Rattle.lalrpop_lanes.specs.lane_tables.LaneTables.{HasCell, HasRow, IsSuccessor}
use Rattle.lalrpop_lanes.specs.declared.lane_table.table.LaneTable.{LaneTable}

-- the keys are the successors of all states
abbrev pub AreReached : LaneTable → List StateIndex → Type 0
AreReached table keys = (right : StateIndex) → Contains keys right ↔ ((left : StateIndex) × IsSuccessor table left right)

-- each state with a cell has a number below the count
abbrev pub HasCellsBelow : ℕ → LaneTable → Type 0
HasCellsBelow count table = (row : StateIndex) (k : ℕ) → HasCell table row k → row.0 < count

-- both states have numbers below the count, and the right one has a row
abbrev pub IsClosedEdge : ℕ → LaneTable → StateIndex → StateIndex → Type 0
IsClosedEdge count table left right = (left.0 < count) × (right.0 < count) × HasRow table right
