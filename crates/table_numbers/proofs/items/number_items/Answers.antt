use Rattle.std.proofs.Common.{List, map, ◌∙◌, ap}
use Rattle.table_numbers.specs.Items.{item_at}
use Rattle.table_numbers.specs.declared.tables.NumberedItem.{NumberedItem}
use Rattle.table_numbers.proofs.ItemLemmas.{next_item}
use Rattle.table_numbers.proofs.items.number_items.Goals as goal

pub loop-item-preserved : goal.loop-item-preserved
loop-item-preserved c =
    let ps = c.args.productions.now in
    let new = c.number_item.new.sets in
    record {
      done = ap (λ (xs : List NumberedItem). map (item_at ps new) xs) c.in_ok-push.ensures.ok
          ∙ next_item ps c.loop-item.sets new c.in_ok-number_item.ensures.kept c.loop-item.list c.args.items.now c.loop-item.item-index c.in_ok-number_item.field-0 c.item-item.result c.loop-item-test.true c.item-item.is c.in_ok-number_item.ensures.numbered c.loop-item.invariant.done;
      kept = λ n x there. c.in_ok-number_item.ensures.kept n x (c.loop-item.invariant.kept n x there);
    }
