use Rattle.std.proofs.Common.{◌≡◌, ◌∙◌, ap, sym, get_or, slice_set, arith}
use Rattle.lalrpop_base.specs.Words.{Bits, Dotted, joined_item}
use Rattle.lalrpop_tables.proofs.theory.collapse.MergingItems.{joined_there, joined_past}
use Rattle.lalrpop_collections.proofs.theory.lists.Places.{slice_get_at}
use Rattle.lalrpop_tables.proofs.build_lalr.join.join_at.Goals as goal

pub returns-in_ok-join_item : goal.returns-in_ok-join_item
returns-in_ok-join_item c =
    let xs = c.args.items.now in
    let n = c.args.place in
    let item : Dotted Bits = c.index-items-place.result in
    let read : item ≡ get_or xs n item = c.index-items-place.is in
    let at = slice_get_at xs n item c.if-place-items.true read in
    let is : c.join_item.new.item ≡ joined_item item c.args.other.now = c.in_ok-join_item.ensures ∙ ap (λ (i : Dotted Bits). joined_item i c.args.other.now) (sym read) in
    ap (slice_set xs n) is ∙ joined_there xs n item c.args.other.now at

pub returns-else-place-items : goal.returns-else-place-items
returns-else-place-items c = sym (joined_past c.args.items.now c.args.place c.args.other.now (λ l. omega (arith, c.if-place-items.false)))
