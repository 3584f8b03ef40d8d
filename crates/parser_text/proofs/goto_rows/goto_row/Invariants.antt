use Rattle.std.proofs.Common.{◌≡◌, ℕ, ◌<◌, length, slice_index}
use Rattle.parser_text.specs.Rows.{IsTargetOf}
use Rattle.parser_text.proofs.goto_rows.goto_row.Given as goal

abbrev pub invariant-loop-nonterminal : goal.invariant-loop-nonterminal
invariant-loop-nonterminal l = record {
  long : length l.row.items ≡ l.nonterminal;
  each : (nonterminal : ℕ) → nonterminal < length l.row.items → IsTargetOf l.listed l.table l.state nonterminal (slice_index l.row.items nonterminal);
}
