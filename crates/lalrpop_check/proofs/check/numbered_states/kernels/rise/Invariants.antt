use Rattle.lalrpop_check.proofs.theory.check.ExpectedKernels.{RiseBelow}
use Rattle.lalrpop_check.proofs.check.numbered_states.kernels.rise.Given as goal

abbrev pub invariant-loop-place : goal.invariant-loop-place
invariant-loop-place l = RiseBelow l.kernel l.place
