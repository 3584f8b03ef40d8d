use Rattle.std.proofs.Common.{take}
use Rattle.lalrpop_construction.proofs.theory.states.FinishedItems.{AreFinishedOf}
use Rattle.lalrpop_construction.proofs.construction.numbered_state.made.finished_of.Given as goal

abbrev pub invariant-loop-item : goal.invariant-loop-item
invariant-loop-item l = AreFinishedOf l.numbers (take l.item-index l.items) l.finished.items
