use Rattle.std.proofs.Common.{◌≡◌, map, take}
use Rattle.table_numbers.specs.Items.{item_at, item_parts}
use Rattle.table_numbers.specs.Numbered.{Keeps}
use Rattle.table_numbers.proofs.items.number_items.Given as goal

abbrev pub invariant-loop-item : goal.invariant-loop-item
invariant-loop-item l = record {
  done : map (item_at l.productions l.sets) l.list ≡ map item_parts (take l.item-index l.items);
  kept : Keeps l.fn.sets l.sets;
}
