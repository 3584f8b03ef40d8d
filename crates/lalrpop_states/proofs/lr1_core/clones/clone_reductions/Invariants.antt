use Rattle.std.proofs.Common.{◌≡◌, take}
use Rattle.lalrpop_states.proofs.lr1_core.clones.clone_reductions.Given as goal

abbrev pub invariant-loop-lookahead : goal.invariant-loop-lookahead
invariant-loop-lookahead g l = l.copy.items ≡ take l.lookahead-index l.reductions
