use Rattle.std.proofs.Common.{◌≡◌, ◌≤◌, length}
use Rattle.parse_tables.specs.Rows.{row_count}
use Rattle.parse_tables.proofs.StateRows.{IsGotoOf, RightBelow}
use Rattle.parse_tables.proofs.build.pack_gotos.Given as goal

abbrev pub invariant-loop-state : goal.invariant-loop-state
invariant-loop-state l = record {
  within : l.state-index ≤ length l.states;
  counted : row_count l.packing.rows ≡ l.state-index;
  right : RightBelow (length l.nonterminals) l.states (IsGotoOf l.nonterminals) l.packing.rows l.state-index;
}
