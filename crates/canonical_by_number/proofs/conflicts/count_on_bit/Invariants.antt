use Rattle.std.proofs.Common.{◌≡◌, ◌≤◌, take}
use Rattle.std.specs.Prelude.{count_by}
use Rattle.canonical_by_number.specs.Conflicts.{holds_in}
use Rattle.canonical_by_number.proofs.conflicts.count_on_bit.Given as goal

abbrev pub invariant-loop-entry : goal.invariant-loop-entry
invariant-loop-entry l = record {
  few : l.count ≤ l.entry-index;
  counted : l.count ≡ count_by (holds_in l.sets l.bit) (take l.entry-index l.finished);
}
