use Rattle.std.proofs.Common.{◌≡◌, ◌∙◌, ◌+◌, ◌++◌, ◌∷◌, [], List, ℕ, ap, arith, length, subst, sym, take}
use Rattle.std.proofs.lemmas.List.{length-take-le, take_more}
use Rattle.lalrpop_states.specs.Words.{Dotted}
use Rattle.lalrpop_numbers.specs.Words.{AddsStart, AreAllExpansions, lists_of}
use Rattle.lalrpop_numbers.proofs.Types.{Nil}
use Rattle.lalrpop_numbers.proofs.theory.numbers.Numbering.{expansions_more}
use Rattle.lalrpop_numbers.proofs.numbers.expansions.expansions_of.Goals as goal

pub loop-number-preserved : goal.loop-number-preserved
loop-number-preserved c =
    let items : List (Dotted Nil) = c.args.items.now in
    let symbols = c.args.symbols.now in
    let k = c.loop-number.number in
    let i : Dotted Nil = c.index-items-number.result in
    let old : List (List ℕ) = lists_of c.loop-number.expansions.items in
    let new : List (List ℕ) = lists_of c.add_start.new.expansions.items in
    let more : take (k + 1) items ≡ take k items ++ i ∷ [] = take_more items k i c.loop-number-test.true ∙ ap (λ (j : Dotted Nil). take k items ++ j ∷ []) (sym c.index-items-number.is) in
    let count : length (take k items) ≡ k = length-take-le k items (let l = c.loop-number-test.true in omega arith) in
    subst (λ (done : List (Dotted Nil)). AreAllExpansions symbols done new) (sym more)
    (expansions_more symbols (take k items) i old new c.loop-number.invariant (subst (λ (n : ℕ). AddsStart symbols i n old new) (sym count) c.in_ok-add_start.ensures))
