use Rattle.std.proofs.Common.{◌≡◌, ◌++◌}
use Rattle.lalrpop_base.specs.Words.{items_by}
use Rattle.lalrpop_construction.proofs.construction.state.items_of.Given as goal

abbrev pub invariant-loop-item : goal.invariant-loop-item
invariant-loop-item g l = record {
  made : l.items.items ≡ items_by l.fn.numbers.items.items l.yielded;
  left : l.yielded ++ l.item-iterator.rest.items ≡ l.fn.list.items;
}
