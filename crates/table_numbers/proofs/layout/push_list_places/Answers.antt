use Rattle.std.proofs.Common.{◌≡◌, ℕ, ◌+◌, ◌++◌, List, length, drop, ap, ◌∙◌}
use Rattle.table_numbers.specs.Layout.{item_block, places_from}
use Rattle.table_numbers.specs.declared.tables.NumberedItem.{NumberedItem}
use Rattle.table_numbers.proofs.PlaceLemmas.{next_end, next_place}
use Rattle.table_numbers.proofs.layout.push_list_places.Goals as goal

pub loop-list-preserved : goal.loop-list-preserved
loop-list-preserved c =
    let lists = c.args.lists.now in
    let i = c.loop-list.list-index in
    let place = c.loop-list.place in
    let next = c.in_ok-place.place in
    let list = c.list-item.result in
    let at : next ≡ place + length (item_block list) = c.in_ok-place.ensures ∙ ap (λ (x : List NumberedItem). place + length (item_block x)) c.as_slice.ensures in
    record {
      places = ap (λ (o : List ℕ). o ++ places_from item_block next (drop (i + 1) lists)) c.in_ok-push.ensures.items
          ∙ next_place item_block c.loop-list.out.items _ lists i place next list c.loop-list-test.true c.list-item.is at c.loop-list.invariant.places;
      end = next_end item_block _ lists i place next list c.loop-list-test.true c.list-item.is at c.loop-list.invariant.end;
    }
