use Rattle.std.proofs.Common.{take}
use Rattle.lr1_theory.proofs.theory.states.CheckStates.{AreReduced}
use Rattle.lalrpop_check.proofs.check.states.reduced_items.Given as goal

abbrev pub invariant-loop-reduction : goal.invariant-loop-reduction
invariant-loop-reduction l = AreReduced (take l.reduction-index l.reductions) l.set.keys
