use Rattle.std.proofs.Common.{◌≡◌, ◌+◌, length, arith}
use Rattle.table_numbers.proofs.PlaceLemmas.{length-item_block}
use Rattle.table_numbers.proofs.layout.place_after_items.Goals as goal

pub returns : goal.returns
returns c =
    let a : c.in_ok-first.first ≡ c.args.place + 1 = c.in_ok-first.ensures in
    let b : c.in_ok-second.second ≡ c.in_ok-first.first + length c.args.items.now = c.in_ok-second.ensures in
    let d : c.in_ok-third.third ≡ c.in_ok-second.second + length c.args.items.now = c.in_ok-third.ensures in
    let e : c.in_ok-end.end ≡ c.in_ok-third.third + length c.args.items.now = c.in_ok-end.ensures in
    let long = length-item_block c.args.items.now in
    omega (arith, a, b, d, e, long)
