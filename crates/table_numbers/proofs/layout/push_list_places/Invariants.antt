use Rattle.std.proofs.Common.{◌≡◌, ◌+◌, ◌++◌, drop, length}
use Rattle.std.specs.List.{flat_map}
use Rattle.table_numbers.specs.Layout.{item_block, places_from}
use Rattle.table_numbers.proofs.layout.push_list_places.Given as goal

abbrev pub invariant-loop-list : goal.invariant-loop-list
invariant-loop-list l = record {
  places : l.out.items ++ places_from item_block l.place (drop l.list-index l.lists) ≡ l.fn.out.items ++ places_from item_block l.first l.lists;
  end : l.place + length (flat_map item_block (drop l.list-index l.lists)) ≡ l.first + length (flat_map item_block l.lists);
}
