-- Lane tables (Pager 1977): for each state and each action that is traced the tokens found there,
-- and the states that a trace goes through.
use Rattle.std.specs.Prelude.{◌≡◌, ◌⊎◌, ◌<◌, ◌↔◌, ℕ, true, List, length, Contains}
use Rattle.std.specs.BTreeSet.{BTreeSet as SortedSet}
use Rattle.lalrpop_base.specs.Words.{Bits, has}
use Rattle.lalrpop_lanes.specs.lanes.Contexts.{HasAt}
use Rattle.lalrpop_states.specs.declared.lr1_core.state.StateIndex.{StateIndex}
use Rattle.lalrpop_lanes.specs.declared.lane_table.context_set.ConflictIndex.{ConflictIndex}
use Rattle.lalrpop_lanes.specs.declared.lane_table.table.LaneTable.{LaneTable}

-- the number of a column
abbrev pub column : ℕ → ConflictIndex
column n = record { index = n }

-- the table has a cell in the row of a state and in the column, with these tokens
abbrev pub IsCell : LaneTable → StateIndex → ℕ → Bits → Type 0
IsCell table row k set = Contains table.lookaheads.entries ((row, column k), set)

-- the table has a cell there, which may be empty
abbrev pub HasCell : LaneTable → StateIndex → ℕ → Type 0
HasCell table row k = (set : Bits) × IsCell table row k set

-- the table has a cell there with the token
abbrev pub HasBit : LaneTable → StateIndex → ℕ → ℕ → Type 0
HasBit table row k bit = (set : Bits) × IsCell table row k set × (has set bit ≡ true)

-- the right state is a successor of the left one
abbrev pub IsSuccessor : LaneTable → StateIndex → StateIndex → Type 0
IsSuccessor table left right = (set : SortedSet StateIndex) × Contains table.successors (left, set) × Contains set.keys right

-- a state has a row: a cell, or a successor
abbrev pub HasRow : LaneTable → StateIndex → Type 0
HasRow table row = ((k : ℕ) × HasCell table row k) ⊎ ((right : StateIndex) × IsSuccessor table row right)

-- two tables have the same cells, successors and number of columns
pub record AreSameTables (old new : LaneTable) : Type 0 where
  pub columns : new.conflicts ≡ old.conflicts
  pub cells : (row : StateIndex) (k : ℕ) → HasCell new row k ↔ HasCell old row k
  pub tokens : (row : StateIndex) (k bit : ℕ) → HasBit new row k bit ↔ HasBit old row k bit
  pub successors : (left right : StateIndex) → IsSuccessor new left right ↔ IsSuccessor old left right

-- a cell was made, or got the tokens; nothing else changed
pub record AddsTokens (row : StateIndex) (k : ℕ) (set : Bits) (old new : LaneTable) : Type 0 where
  pub columns : new.conflicts ≡ old.conflicts
  pub cells : (r : StateIndex) (j : ℕ) → HasCell new r j ↔ (HasCell old r j ⊎ ((r ≡ row) × (j ≡ k)))
  pub tokens : (r : StateIndex) (j bit : ℕ) → HasBit new r j bit ↔ (HasBit old r j bit ⊎ ((r ≡ row) × (j ≡ k) × (has set bit ≡ true)))
  pub successors : (left right : StateIndex) → IsSuccessor new left right ↔ IsSuccessor old left right

-- a successor was added; nothing else changed
pub record AddsSuccessor (left right : StateIndex) (old new : LaneTable) : Type 0 where
  pub columns : new.conflicts ≡ old.conflicts
  pub cells : (row : StateIndex) (k : ℕ) → HasCell new row k ↔ HasCell old row k
  pub tokens : (row : StateIndex) (k bit : ℕ) → HasBit new row k bit ↔ HasBit old row k bit
  pub successors : (l r : StateIndex) → IsSuccessor new l r ↔ (IsSuccessor old l r ⊎ ((l ≡ left) × (r ≡ right)))

-- a table kept its columns, cells, tokens and successors, and maybe has more cells, tokens and
-- successors
pub record KeepsAll (old new : LaneTable) : Type 0 where
  pub columns : new.conflicts ≡ old.conflicts
  pub cells : (row : StateIndex) (k : ℕ) → HasCell old row k → HasCell new row k
  pub tokens : (row : StateIndex) (k bit : ℕ) → HasBit old row k bit → HasBit new row k bit
  pub successors : (left right : StateIndex) → IsSuccessor old left right → IsSuccessor new left right

-- a table without rows
pub record IsEmptyTable (table : LaneTable) : Type 0 where
  pub cells : (row : StateIndex) (k : ℕ) → HasCell table row k → ⊥
  pub successors : (left right : StateIndex) → IsSuccessor table left right → ⊥

-- the column has the token in some row
abbrev pub InColumn : LaneTable → ℕ → ℕ → Type 0
InColumn table k bit = (row : StateIndex) × HasBit table row k bit

-- the columns of a context set are those of the whole table
pub record AreColumns (table : LaneTable) (columns : List Bits) : Type 0 where
  pub counted : length columns ≡ table.conflicts
  pub tokens : (k bit : ℕ) → HasAt columns k bit ↔ InColumn table k bit

-- two columns of the table share a token
pub record ColumnsOverlap (table : LaneTable) : Type 0 where
  pub first : ℕ
  pub second : ℕ
  pub apart : first ≡ second → ⊥
  pub bit : ℕ
  pub here : InColumn table first bit
  pub there : InColumn table second bit

-- the columns of a context set are those of one row
pub record IsRow (table : LaneTable) (row : StateIndex) (columns : List Bits) : Type 0 where
  pub counted : length columns ≡ table.conflicts
  pub tokens : (k bit : ℕ) → HasAt columns k bit ↔ HasBit table row k bit

-- two columns share a token in one row
pub record RowOverlaps (table : LaneTable) (row : StateIndex) : Type 0 where
  pub first : ℕ
  pub second : ℕ
  pub apart : first ≡ second → ⊥
  pub bit : ℕ
  pub here : HasBit table row first bit
  pub there : HasBit table row second bit

-- each cell is in a column of the table
abbrev pub AreInRange : LaneTable → Type 0
AreInRange table = (row : StateIndex) (k : ℕ) → HasCell table row k → k < table.conflicts

-- a state has a cell, which may be empty, and is no state's successor
abbrev pub IsBeachhead : LaneTable → StateIndex → Type 0
IsBeachhead table state = ((k : ℕ) × HasCell table state k) × ((left : StateIndex) → IsSuccessor table left state → ⊥)

-- each state of the table has a number below the count, and each successor has a row
pub record IsClosed (count : ℕ) (table : LaneTable) : Type 0 where
  pub cells : (row : StateIndex) (k : ℕ) → HasCell table row k → row.0 < count
  pub numbers : (left right : StateIndex) → IsSuccessor table left right → (left.0 < count) × (right.0 < count)
  pub rows : (left right : StateIndex) → IsSuccessor table left right → HasRow table right
