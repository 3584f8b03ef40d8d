use Rattle.std.proofs.Common.{◌≡◌, ◌≤◌, take}
use Rattle.std.specs.Prelude.{count_by}
use Rattle.canonical_by_number.specs.Conflicts.{shares_in}
use Rattle.canonical_by_number.proofs.conflicts.count_later.Given as goal

abbrev pub invariant-loop-entry : goal.invariant-loop-entry
invariant-loop-entry l = record {
  few : l.count ≤ l.entry-index;
  counted : l.count ≡ count_by (shares_in l.sets l.tokens) (take l.entry-index l.later);
}
