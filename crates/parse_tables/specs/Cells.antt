-- Rows of numbers that share one list of cells: row displacement (Tarjan and Yao, "Storing a sparse
-- table", 1979). A cell has the number of the row that owns it, so that another row that lies over
-- the cell does not have it.
use Rattle.std.specs.Prelude.{◌≡◌, ◌≢◌, ℕ, ◌+◌, ◌<◌, ◌≤◌, ◌==◌, cond, List, get_or, slice_get, slice_index, Contains, Option, Some, None}

-- the owner and the number of a cell; a cell past the end has owner 0, which means that it is free
abbrev pub cell_in : List (ℕ × ℕ) → ℕ → ℕ × ℕ
cell_in cells k = get_or cells k (0, 0)

-- the number in a cell if the owner has it, and otherwise 0
abbrev pub owned : ℕ → ℕ × ℕ → ℕ
owned owner cell = cond (cell.0 == owner) cell.1 0

-- the number in a column of a row, of which the first cell and the owner are given; 0 if there is
-- no row
abbrev pub number_in : List (ℕ × ℕ) → Option (ℕ × ℕ) → ℕ → ℕ
number_in cells None column = 0
number_in cells (Some row) column = owned row.1 (cell_in cells (row.0 + column))

-- the owner of each row is one of those that were given out, which begin at 1
abbrev pub AreOwners : ℕ → List (ℕ × ℕ) → Type 0
AreOwners owners rows = (k : ℕ) (row : ℕ × ℕ) → slice_get rows k ≡ Some row → (0 < row.1) × (row.1 ≤ owners)

-- the owner of each cell is 0 or one of those that were given out
abbrev pub AreOwned : ℕ → List (ℕ × ℕ) → Type 0
AreOwned owners cells = (k : ℕ) → (cell_in cells k).0 ≤ owners

-- the cells under the columns in which a row has a number are free
abbrev pub IsFree : List (ℕ × ℕ) → List ℕ → ℕ → Type 0
IsFree cells columns start = (column : ℕ) → Contains columns column → (cell_in cells (start + column)).0 ≡ 0

-- all columns in which the row has a number are listed
abbrev pub AreColumns : List ℕ → List ℕ → Type 0
AreColumns row columns = (column : ℕ) → slice_index row column ≢ 0 → Contains columns column

-- the numbers of a row, other than 0, were written over cells from a start on
pub record IsRowWritten (start owner : ℕ) (row : List ℕ) (old new : List (ℕ × ℕ)) : Type 0 where
  pub written : (column : ℕ) → slice_index row column ≢ 0 → cell_in new (start + column) ≡ (owner, slice_index row column)
  pub kept : (k : ℕ) → ((column : ℕ) → k ≡ start + column → slice_index row column ≡ 0) → cell_in new k ≡ cell_in old k
