use Rattle.std.proofs.Common.{◌≡◌, ◌∙◌, ◌+◌, ◌++◌, ◌∷◌, [], List, ap, subst, sym, take}
use Rattle.std.proofs.lemmas.List.{take_all, take_more}
use Rattle.lalrpop_base.specs.Words.{Bits, Dotted}
use Rattle.lalrpop_explain.specs.Words.{AreExplainedShifts}
use Rattle.lalrpop_explain.specs.declared.explain.ExplainedItem.{ExplainedItem}
use Rattle.lalrpop_explain.specs.explained.ExplainedConflicts.{no_item}
use Rattle.lalrpop_explain.proofs.theory.explained.ExplainedLists.{shifts_more}
use Rattle.lalrpop_explain.proofs.explain.items.explained_items.Goals as goal

pub loop-item-init : goal.loop-item-init
loop-item-init c =
    let context = c.args.context.now in
    subst (λ (xs : List ExplainedItem). AreExplainedShifts context.first_sets.now context.states.now c.args.most c.args.state c.args.terminal.now [] xs) (sym c.new-list.ensures.items) no_item

pub loop-item-preserved : goal.loop-item-preserved
loop-item-preserved c =
    let context = c.args.context.now in
    let items : List (Dotted Bits) = c.args.items.now in
    let i = c.loop-item.item-index in
    let item : Dotted Bits = c.item-item.result in
    let more : take (i + 1) items ≡ take i items ++ item ∷ [] = take_more items i item c.loop-item-test.true ∙ ap (λ (x : Dotted Bits). take i items ++ x ∷ []) (sym c.item-item.is) in
    subst (λ (xs : List (Dotted Bits)). AreExplainedShifts context.first_sets.now context.states.now c.args.most c.args.state c.args.terminal.now xs c.add_shift.new.list.items) (sym more)
    (shifts_more context.first_sets.now context.states.now c.args.most c.args.state c.args.terminal.now (take i items) item c.loop-item.list.items c.add_shift.new.list.items c.loop-item.invariant c.in_ok-add_shift.ensures)

pub returns : goal.returns
returns c =
    let context = c.args.context.now in
    subst (λ (xs : List (Dotted Bits)). AreExplainedShifts context.first_sets.now context.states.now c.args.most c.args.state c.args.terminal.now xs c.loop-item.list.items) (take_all c.loop-item.item-index c.args.items.now c.loop-item-test.false) c.loop-item.invariant
