use Rattle.std.proofs.Common.{◌≡◌, drop}
use Rattle.lalrpop_states.specs.Words.{longest_from}
use Rattle.lalrpop_states.proofs.lr1_core.state.State.max_prefix.Given as goal

abbrev pub invariant-loop-item : goal.invariant-loop-item
invariant-loop-item g l = longest_from l.best (drop l.item-index l.self.items.vec.items) ≡ longest_from l.initial.best l.self.items.vec.items
