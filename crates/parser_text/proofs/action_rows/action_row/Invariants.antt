use Rattle.std.proofs.Common.{◌≡◌, ℕ, ◌<◌, length, slice_index}
use Rattle.parser_text.specs.Hidden.{hidden_now}
use Rattle.parser_text.specs.Rows.{IsCodeOf}
use Rattle.parser_text.proofs.action_rows.action_row.Given as goal

abbrev pub invariant-loop-bit : goal.invariant-loop-bit
invariant-loop-bit l = record {
  long : length l.row.items ≡ l.bit;
  each : (bit : ℕ) → bit < length l.row.items → IsCodeOf (hidden_now l.hidden) l.listed l.table l.state bit (slice_index l.row.items bit);
}
