use Rattle.conflict_causes.proofs.ShiftItems.{AreBefore}
use Rattle.conflict_causes.proofs.causes.key.items_before.Given as goal

abbrev pub invariant-loop-item : goal.invariant-loop-item
invariant-loop-item l = AreBefore l.terminal l.items l.item-index l.set
