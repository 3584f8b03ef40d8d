use Rattle.std.proofs.Common.{◌≡◌, ◌++◌, drop}
use Rattle.table_numbers.specs.Layout.{item_numbers}
use Rattle.table_numbers.proofs.layout.push_items.Given as goal

abbrev pub invariant-loop-item : goal.invariant-loop-item
invariant-loop-item l = l.out.items ++ item_numbers (drop l.item-index l.items) ≡ l.fn.out.items ++ item_numbers l.items
