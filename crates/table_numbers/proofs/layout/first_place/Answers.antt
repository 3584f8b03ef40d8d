use Rattle.std.proofs.Common.{◌≡◌, ◌+◌, arith}
use Rattle.table_numbers.proofs.layout.first_place.Goals as goal

pub returns : goal.returns
returns c =
    let a : c.in_ok-sets.sets ≡ 8 + c.len.result = c.in_ok-sets.ensures in
    let b : c.in_ok-states.states ≡ c.in_ok-sets.sets + c.len-2.result = c.in_ok-states.ensures in
    let d : c.in_ok-lists.lists ≡ c.in_ok-states.states + c.len-3.result = c.in_ok-lists.ensures in
    let e : c.in_ok-half.half ≡ c.in_ok-lists.lists + c.len-4.result = c.in_ok-half.ensures in
    let f : c.in_ok-end.end ≡ c.in_ok-half.half + c.len-5.result = c.in_ok-end.ensures in
    let sets = c.len.ensures in
    let states = c.len-2.ensures in
    let lists = c.len-3.ensures in
    let first = c.len-4.ensures in
    let second = c.len-5.ensures in
    omega (arith, a, b, d, e, f, sets, states, lists, first, second)
