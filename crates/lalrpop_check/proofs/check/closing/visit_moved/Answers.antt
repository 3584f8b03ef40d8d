use Rattle.std.proofs.Common.{◌≡◌, ◌∙◌, ◌+◌, ◌++◌, ◌∷◌, [], subst, sym, ap, take, List}
use Rattle.std.proofs.lemmas.List.{take_more, take_all}
use Rattle.lalrpop_base.specs.Words.{Bits, Dotted, IsMovedOf, Visits}
use Rattle.lalrpop_check.proofs.theory.check.CheckClosing.{Moved-none, Moved-more}
use Rattle.lalrpop_check.proofs.check.closing.visit_moved.Goals as goal

pub loop-item-init : goal.loop-item-init
loop-item-init c = Moved-none c.args.walk.now

pub loop-item-preserved : goal.loop-item-preserved
loop-item-preserved c =
    let xs : List (Dotted Bits) = c.args.items.now in
    let i = c.loop-item.item-index in
    let item : Dotted Bits = c.item-item.result in
    let more : take (i + 1) xs ≡ take i xs ++ item ∷ [] = take_more xs i item c.loop-item-test.true ∙ ap (λ (x : Dotted Bits). take i xs ++ x ∷ []) (sym c.item-item.is) in
    subst (λ (ys : List (Dotted Bits)). Visits (IsMovedOf ys) c.args.walk.now c.visit_if_moved.new.walk) (sym more)
    (Moved-more (take i xs) item _ _ _ c.loop-item.invariant c.in_ok-visit_if_moved.ensures)

pub returns : goal.returns
returns c = subst (λ (ys : List (Dotted Bits)). Visits (IsMovedOf ys) c.args.walk.now c.loop-item.walk) (take_all c.loop-item.item-index c.args.items.now c.loop-item-test.false) c.loop-item.invariant
