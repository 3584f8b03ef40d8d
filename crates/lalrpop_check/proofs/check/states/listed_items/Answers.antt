use Rattle.std.proofs.Common.{◌≡◌, ◌∙◌, ◌+◌, ◌++◌, ◌∷◌, [], subst, sym, ap, take, List}
use Rattle.std.proofs.lemmas.List.{take_more, take_all}
use Rattle.lalrpop_base.specs.Words.{Bits, Dotted, Lists}
use Rattle.lr1_theory.proofs.theory.states.CheckStates.{Lists-none, Lists-more}
use Rattle.lalrpop_check.proofs.check.states.listed_items.Goals as goal

pub loop-item-init : goal.loop-item-init
loop-item-init c = Lists-none _ c.new-listed.ensures.empty

pub loop-item-preserved : goal.loop-item-preserved
loop-item-preserved c =
    let xs : List (Dotted Bits) = c.args.items.now in
    let i = c.loop-item.item-index in
    let item : Dotted Bits = c.item-item.result in
    let more : take (i + 1) xs ≡ take i xs ++ item ∷ [] = take_more xs i item c.loop-item-test.true ∙ ap (λ (x : Dotted Bits). take i xs ++ x ∷ []) (sym c.item-item.is) in
    subst (λ (ys : List (Dotted Bits)). Lists ys c.add_key.new.set.keys) (sym more)
    (Lists-more (take i xs) item c.to_lr0.result _ _ c.to_lr0.ensures.production c.to_lr0.ensures.index c.in_ok-add_key.ensures.added c.loop-item.invariant)

pub returns : goal.returns
returns c = subst (λ (ys : List (Dotted Bits)). Lists ys c.loop-item.listed.keys) (take_all c.loop-item.item-index c.args.items.now c.loop-item-test.false) c.loop-item.invariant
