use Rattle.std.proofs.Common.{◌≡◌, ℕ, ◌+◌, ◌<◌, slice_get, Some}
use Rattle.parse_tables.specs.Cells.{cell_in}
use Rattle.parse_tables.proofs.cells.is_free.Given as goal

abbrev pub invariant-loop-column : goal.invariant-loop-column
invariant-loop-column l = (k column : ℕ) → k < l.column-index → slice_get l.columns k ≡ Some column → (cell_in l.cells (l.start + column)).0 ≡ 0
