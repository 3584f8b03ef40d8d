use Rattle.std.proofs.Common.{◌≡◌, ◌∙◌, ◌+◌, ◌++◌, ◌∷◌, [], ◌<◌, List, ℕ, ap, sym, take, length, arith}
use Rattle.std.proofs.lemmas.List.{take_more, length-take}
use Rattle.lalrpop_base.specs.Words.{Bits, Dotted, joined_at, joined_items}
use Rattle.lalrpop_tables.proofs.theory.collapse.MergingItems.{joined_more}
use Rattle.lalrpop_tables.proofs.build_lalr.join.join_items.Goals as goal

pub loop-place-preserved : goal.loop-place-preserved
loop-place-preserved c =
    let xs : List (Dotted Bits) = c.args.others.now in
    let old : List (Dotted Bits) = c.args.items.now in
    let i = c.loop-place.place in
    let j : Dotted Bits = c.index-others-place.result in
    let within : i < length xs = c.loop-place-test.true in
    let more : take (i + 1) xs ≡ take i xs ++ j ∷ [] = take_more xs i j within ∙ ap (λ (x : Dotted Bits). take i xs ++ x ∷ []) (sym c.index-others-place.is) in
    let taken : length (take i xs) ≡ i = omega (arith, length-take i xs) in
    c.in_ok-join_at.ensures
    ∙ ap (λ (is : List (Dotted Bits)). joined_at is i j) c.loop-place.invariant
    ∙ ap (λ (n : ℕ). joined_at (joined_items old (take i xs)) n j) (sym taken)
    ∙ sym (joined_more old (take i xs) j)
    ∙ ap (joined_items old) (sym more)
