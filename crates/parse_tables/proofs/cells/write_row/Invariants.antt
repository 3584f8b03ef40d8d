use Rattle.std.proofs.Common.{◌≡◌, ◌≢◌, ℕ, ◌+◌, ◌<◌, length, slice_index}
use Rattle.parse_tables.specs.Cells.{cell_in}
use Rattle.parse_tables.proofs.cells.write_row.Given as goal

abbrev pub invariant-loop-column : goal.invariant-loop-column
invariant-loop-column l = record {
  written : (column : ℕ) → column < l.column → slice_index l.row column ≢ 0 → cell_in l.cells.items (l.start + column) ≡ (l.owner, slice_index l.row column);
  kept : (k : ℕ) → ((column : ℕ) → column < l.column → k ≡ l.start + column → slice_index l.row column ≡ 0) → cell_in l.cells.items k ≡ cell_in l.fn.cells.items k;
  len : length l.cells.items ≡ length l.fn.cells.items;
}
