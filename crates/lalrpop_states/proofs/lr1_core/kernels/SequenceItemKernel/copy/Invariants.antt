use Rattle.std.proofs.Common.{◌≡◌, take}
use Rattle.lalrpop_states.proofs.lr1_core.kernels.SequenceItemKernel.copy.Given as goal

abbrev pub invariant-loop-item : goal.invariant-loop-item
invariant-loop-item g l = l.copy ≡ take l.item-index l.item-items
