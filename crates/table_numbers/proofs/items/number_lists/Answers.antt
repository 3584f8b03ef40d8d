use Rattle.std.proofs.Common.{◌≡◌, ℕ, ◌+◌, ◌∷◌, [], List, length, length-append, map, slice_get, Some, refl, sym, ◌∙◌, ap, subst}
use Rattle.std.proofs.lemmas.Option.{slice_get_read}
use Rattle.table_numbers.specs.Items.{AreItemsOf, item_parts}
use Rattle.table_numbers.specs.declared.tables.NumberedItem.{NumberedItem}
use Rattle.table_numbers.proofs.ItemLemmas.{next_list}
use Rattle.table_numbers.proofs.items.number_lists.Goals as goal

pub loop-place-preserved : goal.loop-place-preserved
loop-place-preserved c =
    let ps = c.args.productions.now in
    let states = c.args.states.now in
    let lists = c.loop-place.lists in
    let new = c.number_items.new.sets in
    let made = c.in_ok-number_items.field-0 in
    let state = c.index-states-place.result in
    let at = slice_get_read states (length states) c.loop-place.place state refl c.loop-place-test.true c.index-states-place.is in
    let here : slice_get states (length lists) ≡ Some state = subst (λ (n : ℕ). slice_get states n ≡ Some state) (sym c.loop-place.invariant.counted) at in
    let is : AreItemsOf ps new made state = c.in_ok-number_items.ensures.numbered ∙ ap (map item_parts) c.deref.ensures.value in
    record {
      counted = ap (λ (xs : List (List NumberedItem)). length xs) c.in_ok-push.ensures.ok ∙ length-append lists (made ∷ []) ∙ ap (λ (n : ℕ). n + 1) c.loop-place.invariant.counted;
      each = λ n other items at_n at_items.
          next_list ps c.loop-place.sets new c.in_ok-number_items.ensures.kept states lists state made here is c.loop-place.invariant.each n other items at_n
          (ap (λ (xs : List (List NumberedItem)). slice_get xs n) (sym c.in_ok-push.ensures.ok) ∙ at_items);
      kept = λ n x there. c.in_ok-number_items.ensures.kept n x (c.loop-place.invariant.kept n x there);
    }
