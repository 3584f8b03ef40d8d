use Rattle.std.proofs.Common.{◌≡◌, ◌++◌, drop}
use Rattle.std.specs.List.{flat_map}
use Rattle.table_numbers.specs.Layout.{item_block}
use Rattle.table_numbers.proofs.layout.push_lists.Given as goal

abbrev pub invariant-loop-list : goal.invariant-loop-list
invariant-loop-list l = l.out.items ++ flat_map item_block (drop l.list-index l.lists) ≡ l.fn.out.items ++ flat_map item_block l.lists
