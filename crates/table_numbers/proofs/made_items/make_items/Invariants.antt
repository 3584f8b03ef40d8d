use Rattle.std.proofs.Common.{◌≡◌, ◌++◌, drop, map}
use Rattle.table_numbers.specs.Items.{item_at, item_parts}
use Rattle.table_numbers.specs.Made.{borrowed}
use Rattle.table_numbers.proofs.made_items.make_items.Given as goal

abbrev pub invariant-loop-item : goal.invariant-loop-item
invariant-loop-item l = map item_parts l.items.items ++ map (item_at (borrowed l.productions) l.sets) (drop l.item-index l.list) ≡ map (item_at (borrowed l.productions) l.sets) l.list
