use Rattle.std.proofs.Common.{◌+◌, ◌++◌, ℕ, List, map, drop, get_or, Option, refl, sym, ◌∙◌, ap}
use Rattle.lalrpop_base.specs.Words.{Bits, Dotted}
use Rattle.lalrpop_grammar.specs.declared.repr.Production.{Production}
use Rattle.table_numbers.specs.Items.{item_at, item_parts}
use Rattle.table_numbers.specs.Made.{borrowed}
use Rattle.table_numbers.specs.declared.tables.NumberedItem.{NumberedItem}
use Rattle.table_numbers.proofs.ListSteps.{next_seen}
use Rattle.table_numbers.proofs.made_items.make_items.Goals as goal

pub loop-item-preserved : goal.loop-item-preserved
loop-item-preserved c =
    let ps = borrowed c.args.productions.now in
    let sets = c.args.sets.now in
    let list = c.args.list.now in
    let i = c.loop-item.item-index in
    let zero : NumberedItem = record { production = 0; dot = 0; lookahead = 0 } in
    let one = get_or list i zero in
    ap (λ (qs : List (Dotted Bits)). map item_parts qs ++ map (item_at ps sets) (drop (i + 1) list)) c.in_ok-push.ensures.items
    ∙ next_seen list i one zero c.loop-item-test.true refl (Dotted Bits) ((Option Production × ℕ) × Option Bits) item_parts (item_at ps sets) c.loop-item.items.items _ c.in_ok-make_item.field-0 (sym c.in_ok-make_item.ensures) c.loop-item.invariant
