use Rattle.std.proofs.Common.{◌≡◌, ℕ, ◌+◌, List, length, ap, arith}
use Rattle.table_numbers.specs.Layout.{counted_pairs}
use Rattle.table_numbers.proofs.PlaceLemmas.{length-state_block}
use Rattle.table_numbers.proofs.layout.place_after_state.Goals as goal

pub returns : goal.returns
returns c =
    let a : c.in_ok-gotos.gotos ≡ c.args.place + length (counted_pairs c.as_slice.result.now) = c.in_ok-gotos.ensures in
    let b : c.in_ok-reductions.reductions ≡ c.in_ok-gotos.gotos + length (counted_pairs c.as_slice-2.result.now) = c.in_ok-reductions.ensures in
    let d : c.in_ok-end.end ≡ c.in_ok-reductions.reductions + length (counted_pairs c.as_slice-3.result.now) = c.in_ok-end.ensures in
    let shifts = ap (λ (xs : List (ℕ × ℕ)). length (counted_pairs xs)) c.as_slice.ensures in
    let gotos = ap (λ (xs : List (ℕ × ℕ)). length (counted_pairs xs)) c.as_slice-2.ensures in
    let reductions = ap (λ (xs : List (ℕ × ℕ)). length (counted_pairs xs)) c.as_slice-3.ensures in
    let long = length-state_block c.args.state.now in
    omega (arith, a, b, d, shifts, gotos, reductions, long)
