use Rattle.std.proofs.Common.{◌≡◌, ℕ, ◌<◌, ◌≤◌, ◌==◌, ◌&&◌, cond, length, slice_index}
use Rattle.lalrpop_base.specs.Words.{has}
use Rattle.parse_tables.proofs.action_rows.put_reduction.Given as goal

abbrev pub invariant-loop-bit : goal.invariant-loop-bit
invariant-loop-bit l = record {
  done : (bit : ℕ) → bit < l.bit → slice_index l.row.items bit ≡ cond (slice_index l.fn.row.items bit == 0 && has l.tokens bit) l.number (slice_index l.fn.row.items bit);
  rest : (bit : ℕ) → l.bit ≤ bit → slice_index l.row.items bit ≡ slice_index l.fn.row.items bit;
  len : length l.row.items ≡ length l.fn.row.items;
}
