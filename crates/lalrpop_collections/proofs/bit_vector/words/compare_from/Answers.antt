use Rattle.std.proofs.Common.{◌∙◌, sym, ap, refl}
use Rattle.std.specs.Ordering.{ordering_reverse}
use Rattle.lalrpop_collections.specs.lists.BitVectors.{members_from}
use Rattle.lalrpop_collections.proofs.theory.lists.RisingOrder.{order_less, order_greater, turned, other_has, cmp_turned}
use Rattle.lalrpop_collections.proofs.bit_vector.words.compare_from.Goals as goal

pub returns-then-has_greater : goal.returns-then-has_greater
returns-then-has_greater c =
    let more = c.if-has_greater.ensures.yes refl in
    sym (order_less c.args.left.now c.args.right.now c.args.number c.requires.least (sym c.if-has_number.ensures) more.0 more.1 more.2)

pub returns-then-has_number : goal.returns-then-has_number
returns-then-has_number c =
    sym (order_greater c.args.left.now c.args.right.now c.args.number c.requires.least (sym c.if-has_number.ensures) (c.if-has_greater.ensures.no refl))

pub returns-then-has_greater-2 : goal.returns-then-has_greater-2
returns-then-has_greater-2 c =
    let left = c.args.left.now in
    let right = c.args.right.now in
    let more = c.if-has_greater-2.ensures.yes refl in
    let least = turned left right c.args.number c.requires.least in
    let there = other_has left right c.args.number c.requires.least (sym c.if-has_number.ensures) in
    sym (cmp_turned (members_from left 0) (members_from right 0) ∙ ap ordering_reverse (order_less right left c.args.number least there more.0 more.1 more.2))

pub returns : goal.returns
returns c =
    let left = c.args.left.now in
    let right = c.args.right.now in
    let least = turned left right c.args.number c.requires.least in
    let there = other_has left right c.args.number c.requires.least (sym c.if-has_number.ensures) in
    sym (cmp_turned (members_from left 0) (members_from right 0) ∙ ap ordering_reverse (order_greater right left c.args.number least there (c.if-has_greater-2.ensures.no refl)))
