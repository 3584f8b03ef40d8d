use Rattle.std.proofs.Common.{slice_get, ◌∙◌, ap}
use Rattle.table_numbers.specs.Items.{item_parts}
use Rattle.table_numbers.proofs.ItemLemmas.{same_parts}
use Rattle.table_numbers.proofs.items.number_item.Goals as goal

pub returns-clause-numbered : goal.returns-clause-numbered
returns-clause-numbered c =
    let first = ap (slice_get c.args.productions.now) c.in_ok-number_of.ensures ∙ c.in-Some.ensures in
    same_parts _ _ _ _ _ _ first c.in_ok-number_of-2.ensures c.in_ok-number_set.ensures.found ∙ ap item_parts c.item.view_is
