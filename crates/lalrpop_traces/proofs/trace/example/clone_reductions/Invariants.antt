use Rattle.std.proofs.Common.{◌≡◌, take}
use Rattle.lalrpop_traces.proofs.trace.example.clone_reductions.Given as goal

abbrev pub invariant-loop-reduction : goal.invariant-loop-reduction
invariant-loop-reduction l = l.copy.items ≡ take l.reduction-index l.reductions
