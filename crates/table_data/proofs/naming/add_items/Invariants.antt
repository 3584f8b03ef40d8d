use Rattle.std.proofs.Common.{take}
use Rattle.std.specs.List.{flat_map}
use Rattle.table_data.specs.Naming.{item_sets}
use Rattle.table_data.specs.Sets.{AddsSets}
use Rattle.table_data.proofs.naming.add_items.Given as goal

-- the sets so far are added
abbrev pub invariant-loop-item : goal.invariant-loop-item
invariant-loop-item l = AddsSets (flat_map (item_sets l.all) (take l.item-index l.items)) l.fn.sets l.sets
