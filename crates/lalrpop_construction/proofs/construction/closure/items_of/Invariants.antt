use Rattle.std.proofs.Common.{◌≡◌, ◌++◌, map}
use Rattle.lalrpop_construction.specs.Words.{numbered_of}
use Rattle.lalrpop_construction.proofs.construction.closure.items_of.Given as goal

abbrev pub invariant-loop-number : goal.invariant-loop-number
invariant-loop-number g l = record {
  made : l.items.items ≡ map numbered_of l.yielded;
  left : l.yielded ++ l.number-iterator.rest.items ≡ l.fn.entries.items;
}
