use Rattle.std.proofs.Common.{◌≡◌, length}
use Rattle.table_numbers.specs.Numbered.{EachIsNumbered}
use Rattle.table_numbers.proofs.number.number_states.Given as goal

abbrev pub invariant-loop-place : goal.invariant-loop-place
invariant-loop-place l = record {
  counted : length l.list ≡ l.place;
  each : EachIsNumbered l.names l.sets l.states l.list;
}
