use Rattle.std.proofs.Common.{◌≡◌, ◌++◌, drop}
use Rattle.table_numbers.specs.Made.{borrowed}
use Rattle.table_numbers.proofs.states.add_borrowed.Given as goal

abbrev pub invariant-loop-production : goal.invariant-loop-production
invariant-loop-production l = borrowed l.list.items ++ drop l.production-index l.productions ≡ borrowed l.fn.list.items ++ l.productions
