use Rattle.std.proofs.Common.{◌≡◌, ◌+◌, ◌≤◌, length}
use Rattle.parse_tables.specs.Rows.{row_count}
use Rattle.parse_tables.proofs.StateRows.{IsActionOf, RightBelow}
use Rattle.parse_tables.proofs.build.pack_actions.Given as goal

abbrev pub invariant-loop-state : goal.invariant-loop-state
invariant-loop-state l = record {
  within : l.state-index ≤ length l.states;
  counted : row_count l.packing.rows ≡ l.state-index;
  right : RightBelow (length l.terminals + 1) l.states (IsActionOf l.terminals l.productions) l.packing.rows l.state-index;
}
