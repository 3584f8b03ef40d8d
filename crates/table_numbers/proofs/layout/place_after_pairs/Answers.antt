use Rattle.std.proofs.Common.{◌≡◌, ◌+◌, length, arith}
use Rattle.table_numbers.proofs.PlaceLemmas.{length-counted}
use Rattle.table_numbers.proofs.layout.place_after_pairs.Goals as goal

pub returns : goal.returns
returns c =
    let a : c.in_ok-place_after.field-0 ≡ c.args.place + 1 = c.in_ok-place_after.ensures in
    let b : c.in_ok-half.half ≡ c.in_ok-place_after.field-0 + length c.args.pairs.now = c.in_ok-half.ensures in
    let d : c.in_ok-end.end ≡ c.in_ok-half.half + length c.args.pairs.now = c.in_ok-end.ensures in
    let long = length-counted c.args.pairs.now in
    omega (arith, a, b, d, long)
