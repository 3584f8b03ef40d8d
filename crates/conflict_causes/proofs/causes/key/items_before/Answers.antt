use Rattle.conflict_causes.proofs.ShiftItems.{all_before, before_more, none_before}
use Rattle.conflict_causes.proofs.causes.key.items_before.Goals as goal

pub loop-item-init : goal.loop-item-init
loop-item-init c = none_before c.args.terminal.now c.args.items.now c.new-set.result c.new-set.ensures.empty c.new-set.ensures.ordered

pub loop-item-preserved : goal.loop-item-preserved
loop-item-preserved c =
    before_more c.args.terminal.now c.args.items.now c.loop-item.item-index c.item-item.result c.loop-item.set c.add_if_before.new.set c.loop-item-test.true c.item-item.is c.loop-item.invariant (c.in_ok-add_if_before.ensures.ordered c.loop-item.invariant.ordered) c.in_ok-add_if_before.ensures.added

pub returns-clause-ordered : goal.returns-clause-ordered
returns-clause-ordered c = c.loop-item.invariant.ordered

pub returns-clause-members : goal.returns-clause-members
returns-clause-members c = all_before c.args.terminal.now c.args.items.now c.loop-item.item-index c.loop-item.set c.loop-item.invariant c.loop-item-test.false
