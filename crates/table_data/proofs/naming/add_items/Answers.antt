use Rattle.std.proofs.Common.{subst}
use Rattle.std.proofs.lemmas.List.{take_all}
use Rattle.std.specs.List.{flat_map}
use Rattle.table_data.specs.Naming.{item_sets}
use Rattle.table_data.specs.Sets.{AddsSets}
use Rattle.table_data.proofs.NamedSets.{adds_next, adds_none}
use Rattle.table_data.proofs.naming.add_items.Goals as goal

pub loop-item-init : goal.loop-item-init
loop-item-init c = adds_none c.args.sets.now

pub loop-item-preserved : goal.loop-item-preserved
loop-item-preserved c = adds_next (item_sets c.args.all.now) c.args.items.now c.loop-item.item-index c.item-item.result _ _ _ c.loop-item-test.true c.item-item.is c.loop-item.invariant c.in_ok-add_item.ensures

pub returns : goal.returns
returns c = subst (λ xs. AddsSets (flat_map (item_sets c.args.all.now) xs) c.args.sets.now c.loop-item.sets) (take_all c.loop-item.item-index c.args.items.now c.loop-item-test.false) c.loop-item.invariant
