use Rattle.std.proofs.Common.{◌≡◌, length}
use Rattle.parser_text.specs.Hidden.{hidden_now}
use Rattle.parser_text.specs.Rows.{HaveActionRows}
use Rattle.parser_text.proofs.action_rows.action_rows.Given as goal

abbrev pub invariant-loop-state : goal.invariant-loop-state
invariant-loop-state l = record {
  counted : length l.rows.items ≡ l.state;
  each : HaveActionRows (hidden_now l.hidden) l.listed l.table l.rows.items;
}
