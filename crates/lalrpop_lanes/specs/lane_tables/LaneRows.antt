-- Rows of a lane table (Pager 1977), made from its cells.
use Rattle.std.specs.Prelude.{◌≡◌, ◌<◌, ◌⊎◌, ◌↔◌, ℕ, true, false, List, length, slice_get, Option, Some, None, Contains}
use Rattle.std.specs.Ordering.{is_eq}
use Rattle.std.specs.BTreeMap.{is_at}
use Rattle.std.specs.BTreeSet.{BTreeSet as SortedSet}
use Rattle.std.specs.Map.{lookup}
use Rattle.lalrpop_base.specs.Words.{Bits, has, no_bits}
use Rattle.lalrpop_lanes.specs.lanes.Contexts.{HasAt, MeetsOther, IsJoinedIn, AreDisjoint}
use Rattle.lalrpop_states.specs.declared.lr1_core.state.StateIndex.{StateIndex}
use Rattle.lalrpop_lanes.specs.lane_tables.LaneTables.{column, RowOverlaps}
use Rattle.lalrpop_state_graph.specs.graphs.StateGraph.{state_cmp}
use Rattle.lalrpop_lanes.specs.declared.lane_table.context_set.ConflictIndex.{ConflictIndex}
use Rattle.lalrpop_lanes.specs.declared.lane_table.table.LaneTable.{LaneTable}
use Rattle.lalrpop_lanes.specs.declared.lane_table.table.rows.RowsError.{RowsError}
use Rattle.lalrpop_lanes.specs.declared.lane_table.table.rows.RowsError.TheVariants.{State, Memory}

-- the cells of a table, each with its tokens
abbrev pub Cells : Type 0
Cells = List ((StateIndex × ConflictIndex) × Bits)

-- a cell in one of these rows has the token in the column
abbrev pub HasIn : (StateIndex → Type 0) → Cells → ℕ → ℕ → Type 0
HasIn P cells k bit = (row : StateIndex) × P row × ((set : Bits) × Contains cells ((row, column k), set) × (has set bit ≡ true))

-- the columns have exactly the tokens of these rows, and no two columns share a token
pub record AreGathered (P : StateIndex → Type 0) (cells : Cells) (columns : List Bits) : Type 0 where
  pub tokens : (k bit : ℕ) → HasAt columns k bit ↔ HasIn P cells k bit
  pub disjoint : AreDisjoint columns

-- the row is that of the state
abbrev pub ThisRow : StateIndex → StateIndex → Type 0
ThisRow state row = row ≡ state

-- rows by state
abbrev pub Rows : Type 0
Rows = List (StateIndex × List Bits)

-- the row of a state
abbrev pub row_at : Rows → StateIndex → Option (List Bits)
row_at rows state = lookup (is_at (state_cmp state)) rows

-- the columns are the row, if there is one, else they are empty columns of that count
abbrev pub AreColumnsOf : ℕ → Option (List Bits) → List Bits → Type 0
AreColumnsOf count None columns = (length columns ≡ count) × ((k : ℕ) (column : Bits) → slice_get columns k ≡ Some column → column ≡ no_bits)
AreColumnsOf count (Some row) columns = columns ≡ row

-- the rows of other states stay
abbrev pub KeepOthers : StateIndex → Rows → Rows → Type 0
KeepOthers state old new = (q : StateIndex) → is_eq (state_cmp state q) ≡ false → row_at new q ≡ row_at old q

-- the state has a row now; a new one is empty, and the rows of other states stay
pub record MakesRow (count : ℕ) (state : StateIndex) (old new : Rows) : Type 0 where
  pub row : List Bits
  pub there : row_at new state ≡ Some row
  pub was : AreColumnsOf count (row_at old state) row
  pub others : KeepOthers state old new

-- the tokens were joined to a column of the row of a state, which may be a new row, and no other
-- column shares a token with them
pub record JoinsRow (count : ℕ) (state : StateIndex) (index : ℕ) (tokens : Bits) (old new : Rows) : Type 0 where
  pub before : List Bits
  pub after : List Bits
  pub was : AreColumnsOf count (row_at old state) before
  pub there : row_at new state ≡ Some after
  pub joined : IsJoinedIn index tokens before after
  pub apart : ¬ MeetsOther before index tokens
  pub others : KeepOthers state old new

-- another column of the row of a state shares a token with the tokens
pub record MeetsRow (count : ℕ) (state : StateIndex) (index : ℕ) (tokens : Bits) (rows : Rows) : Type 0 where
  pub row : List Bits
  pub was : AreColumnsOf count (row_at rows state) row
  pub meets : MeetsOther row index tokens

-- a state has a cell
abbrev pub HasCells : Cells → StateIndex → Type 0
HasCells cells state = (k : ℕ) × ((set : Bits) × Contains cells ((state, column k), set))

-- the rows are those of the states with cells, with the tokens of these cells
pub record AreRowsOf (count : ℕ) (cells : Cells) (rows : Rows) : Type 0 where
  pub each : (state : StateIndex) (row : List Bits) → AreColumnsOf count (row_at rows state) row → (length row ≡ count) × AreGathered (ThisRow state) cells row
  pub has : (state : StateIndex) (row : List Bits) → row_at rows state ≡ Some row → HasCells cells state
  pub all : (state : StateIndex) → HasCells cells state → (row : List Bits) × (row_at rows state ≡ Some row)

-- the successors of states
abbrev pub Successors : Type 0
Successors = List (StateIndex × SortedSet StateIndex)

-- the state has a successor
abbrev pub HasSuccessor : Successors → StateIndex → StateIndex → Type 0
HasSuccessor successors left right = (set : SortedSet StateIndex) × Contains successors (left, set) × Contains set.keys right

-- each state with a successor has a row now, which is empty if it is new; the other rows stay
pub record AddsRows (count : ℕ) (successors : Successors) (old new : Rows) : Type 0 where
  pub kept : (state : StateIndex) (row : List Bits) → row_at old state ≡ Some row → row_at new state ≡ Some row
  pub from : (state : StateIndex) (row : List Bits) → row_at new state ≡ Some row → AreColumnsOf count (row_at old state) row × ((row_at old state ≡ Some row) ⊎ ((right : StateIndex) × HasSuccessor successors state right))
  pub all : (left right : StateIndex) → HasSuccessor successors left right → (row : List Bits) × (row_at new left ≡ Some row)

-- the state of the error is the first one in whose row two columns share a token
abbrev pub IsFirstOverlap : LaneTable → RowsError → Type 0
IsFirstOverlap table (State s) = RowOverlaps table s × ((smaller : StateIndex) → smaller.0 < s.0 → ¬ RowOverlaps table smaller)
IsFirstOverlap table Memory = Unit {0}
