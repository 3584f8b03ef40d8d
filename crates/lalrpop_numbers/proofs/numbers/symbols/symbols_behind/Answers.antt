use Rattle.std.proofs.Common.{◌≡◌, ◌∙◌, ◌+◌, ◌++◌, ◌∷◌, [], List, ap, subst, sym, take}
use Rattle.std.proofs.lemmas.List.{take_all, take_more}
use Rattle.lalrpop_states.specs.Words.{Dotted}
use Rattle.lalrpop_numbers.specs.Words.{AreBehindDots}
use Rattle.lalrpop_numbers.proofs.Types.{Nil}
use Rattle.lalrpop_numbers.proofs.theory.numbers.Numbering.{dots_more}
use Rattle.lalrpop_numbers.proofs.numbers.symbols.symbols_behind.Goals as goal

pub loop-item-preserved : goal.loop-item-preserved
loop-item-preserved c =
    let items : List (Dotted Nil) = c.args.items.now in
    let k = c.loop-item.item-index in
    let i : Dotted Nil = c.item-item.result in
    let more : take (k + 1) items ≡ take k items ++ i ∷ [] = take_more items k i c.loop-item-test.true ∙ ap (λ (j : Dotted Nil). take k items ++ j ∷ []) (sym c.item-item.is) in
    subst (λ (done : List (Dotted Nil)). AreBehindDots done c.add_symbol.new.symbols.keys) (sym more)
    (dots_more (take k items) i c.loop-item.symbols.keys c.add_symbol.new.symbols.keys c.loop-item.invariant c.in_ok-add_symbol.ensures)

pub returns : goal.returns
returns c = subst (λ (done : List (Dotted Nil)). AreBehindDots done c.loop-item.symbols.keys) (take_all c.loop-item.item-index c.args.items.now c.loop-item-test.false) c.loop-item.invariant
