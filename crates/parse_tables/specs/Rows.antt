-- Packed rows, as the code keeps them.
use Rattle.std.specs.Prelude.{◌≡◌, ℕ, ◌+◌, ◌<◌, List, length, slice_get, slice_index}
use Rattle.parse_tables.specs.Cells.{number_in}
use Rattle.parse_tables.specs.declared.rows.Rows.{Rows}

-- the number in a row and a column, and 0 if there is none
abbrev pub number_at : Rows → ℕ → ℕ → ℕ
number_at rows row column = number_in rows.cells.items (slice_get rows.rows.items row) column

-- how many rows there are
abbrev pub row_count : Rows → ℕ
row_count rows = length rows.rows.items

-- a row was added after the others, which stay
pub record AddsRow (old new : Rows) (row : List ℕ) : Type 0 where
  pub counted : row_count new ≡ row_count old + 1
  pub kept : (r column : ℕ) → r < row_count old → number_at new r column ≡ number_at old r column
  pub added : (column : ℕ) → column < length row → number_at new (row_count old) column ≡ slice_index row column
