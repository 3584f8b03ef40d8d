use Rattle.std.proofs.Common.{◌≢◌, ℕ, ◌<◌, slice_index}
use Rattle.std.specs.Prelude.{Contains}
use Rattle.parse_tables.proofs.cells.list_columns.Given as goal

abbrev pub invariant-loop-column : goal.invariant-loop-column
invariant-loop-column l = (column : ℕ) → column < l.column → slice_index l.row column ≢ 0 → Contains l.columns.items column
