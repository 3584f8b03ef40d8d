use Rattle.std.proofs.Common.{take}
use Rattle.lalrpop_base.specs.Words.{IsMovedOf, Visits}
use Rattle.lalrpop_check.proofs.check.closing.visit_moved.Given as goal

abbrev pub invariant-loop-item : goal.invariant-loop-item
invariant-loop-item l = Visits (IsMovedOf (take l.item-index l.items)) l.fn.walk l.walk
