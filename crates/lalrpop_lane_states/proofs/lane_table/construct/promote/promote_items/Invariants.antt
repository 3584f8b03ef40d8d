use Rattle.std.proofs.Common.{◌≡◌, map, take}
use Rattle.lalrpop_lane_states.specs.Words.{promoted_item}
use Rattle.lalrpop_lane_states.proofs.lane_table.construct.promote.promote_items.Given as goal

abbrev pub invariant-loop-item : goal.invariant-loop-item
invariant-loop-item l = l.list.items ≡ map (promoted_item l.all) (take l.item-index l.items)
