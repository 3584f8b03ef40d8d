use Rattle.std.proofs.Common.{◌≡◌, ℕ, length, map, slice_get, Some}
use Rattle.lalrpop_base.specs.Words.{Bits, bits_of}
use Rattle.lalrpop_states.specs.declared.lr1_core.state.State.{State}
use Rattle.table_numbers.specs.Items.{EachHasItems}
use Rattle.table_numbers.specs.Made.{IsMade, borrowed}
use Rattle.table_numbers.specs.declared.tables.NumberedState.{NumberedState}
use Rattle.table_numbers.proofs.states.make_states.Given as goal

abbrev pub invariant-loop-place : goal.invariant-loop-place
invariant-loop-place l = record {
  counted : length l.states.items ≡ l.place;
  each : borrowed l.productions ≡ l.names.productions → l.sets ≡ map bits_of l.tables.sets →
      (n : ℕ) (state : State Bits) (s : NumberedState) → slice_get l.states.items n ≡ Some state → slice_get l.tables.states n ≡ Some s → IsMade l.names l.tables.sets s state;
  items : EachHasItems (borrowed l.productions) l.sets l.lists l.states.items;
}
