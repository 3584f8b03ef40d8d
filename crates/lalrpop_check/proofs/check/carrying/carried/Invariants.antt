use Rattle.lalrpop_check.proofs.theory.check.CheckCarrying.{IsCarrying, work}
use Rattle.lalrpop_check.proofs.check.carrying.carried.Given as goal

abbrev pub invariant-loop-place : goal.invariant-loop-place
invariant-loop-place l = IsCarrying l.grammar l.start l.states l.table.entries l.queue.items

abbrev pub decreases-loop-place : goal.decreases-loop-place
decreases-loop-place l = work l.grammar l.start l.states l.table.entries l.queue.items
