use Rattle.std.proofs.Common.{◌≡◌, drop, None}
use Rattle.std.specs.Prelude.{option_copied}
use Rattle.lalrpop_states.specs.Words.{prefix_of, shortest_from}
use Rattle.lalrpop_states.proofs.lr1_core.state.State.will_pop.Given as goal

abbrev pub invariant-loop-item : goal.invariant-loop-item
invariant-loop-item g l = shortest_from prefix_of (option_copied l.best) (drop l.item-index l.self.items.vec.items) ≡ shortest_from prefix_of None l.self.items.vec.items
