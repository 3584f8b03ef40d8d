use Rattle.std.proofs.Common.{◌≡◌, ℕ, ◌<◌, slice_index}
use Rattle.parse_tables.specs.Rows.{number_at}
use Rattle.parse_tables.proofs.rows.Rows.is_row.Given as goal

abbrev pub invariant-loop-column : goal.invariant-loop-column
invariant-loop-column l = (column : ℕ) → column < l.column → number_at l.self l.fn.number column ≡ slice_index l.row column
