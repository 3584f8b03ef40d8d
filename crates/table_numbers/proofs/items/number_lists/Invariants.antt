use Rattle.std.proofs.Common.{◌≡◌, length}
use Rattle.table_numbers.specs.Items.{EachListIsOf}
use Rattle.table_numbers.specs.Numbered.{Keeps}
use Rattle.table_numbers.proofs.items.number_lists.Given as goal

abbrev pub invariant-loop-place : goal.invariant-loop-place
invariant-loop-place l = record {
  counted : length l.lists ≡ l.place;
  each : EachListIsOf l.productions l.sets l.states l.lists;
  kept : Keeps l.fn.sets l.sets;
}
