use Rattle.std.proofs.Common.{◌≡◌, ◌∙◌, ◌+◌, ◌++◌, ◌∷◌, [], List, ℕ, ap, subst, sym, take}
use Rattle.std.specs.Prelude.{Option}
use Rattle.std.proofs.lemmas.List.{take_more}
use Rattle.lalrpop_states.specs.Words.{Dotted}
use Rattle.lalrpop_numbers.specs.Words.{AreNumbersBehind}
use Rattle.lalrpop_numbers.proofs.Types.{Nil}
use Rattle.lalrpop_numbers.proofs.theory.numbers.Numbering.{numbers_more}
use Rattle.lalrpop_numbers.proofs.numbers.symbols.numbers_behind.Goals as goal

pub number_behind-requires-clause-known : goal.number_behind-requires-clause-known
number_behind-requires-clause-known c = λ s at. (c.requires.known s).1 (record { item = c.item-item.result; among = (c.loop-item.item-index, c.loop-item-test.true, sym c.item-item.is); behind = at })

pub loop-item-preserved : goal.loop-item-preserved
loop-item-preserved c =
    let items : List (Dotted Nil) = c.args.items.now in
    let symbols = c.args.symbols.now in
    let k = c.loop-item.item-index in
    let i : Dotted Nil = c.item-item.result in
    let old : List (Option ℕ) = c.loop-item.behind.items in
    let more : take (k + 1) items ≡ take k items ++ i ∷ [] = take_more items k i c.loop-item-test.true ∙ ap (λ (j : Dotted Nil). take k items ++ j ∷ []) (sym c.item-item.is) in
    subst (λ (done : List (Dotted Nil)). AreNumbersBehind symbols done c.push.new.self.items) (sym more)
    (subst (AreNumbersBehind symbols (take k items ++ i ∷ [])) (sym c.in_ok-push.ensures.items) (numbers_more symbols (take k items) old i c.number_behind.result c.loop-item.invariant c.number_behind.ensures))
