use Rattle.std.proofs.Common.{◌≡◌, take}
use Rattle.canonical_by_number.specs.Conflicts.{finished_entries}
use Rattle.canonical_by_number.proofs.conflicts.finished_of.Given as goal

abbrev pub invariant-loop-entry : goal.invariant-loop-entry
invariant-loop-entry l = l.finished.items ≡ finished_entries l.numbers (take l.entry-index l.list)
