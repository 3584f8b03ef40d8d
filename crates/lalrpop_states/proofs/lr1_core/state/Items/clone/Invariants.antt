use Rattle.std.proofs.Common.{◌≡◌, take}
use Rattle.lalrpop_states.proofs.lr1_core.state.Items.clone.Given as goal

abbrev pub invariant-loop-item : goal.invariant-loop-item
invariant-loop-item g l = l.vec.items ≡ take l.item-index l.self.vec.items
