use Rattle.std.proofs.Common.{◌≡◌, length}
use Rattle.parser_text.specs.Rows.{HaveGotoRows}
use Rattle.parser_text.proofs.goto_rows.goto_rows.Given as goal

abbrev pub invariant-loop-state : goal.invariant-loop-state
invariant-loop-state l = record {
  counted : length l.rows.items ≡ l.state;
  each : HaveGotoRows l.listed l.table l.rows.items;
}
