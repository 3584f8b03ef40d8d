use Rattle.std.proofs.Common.{length, ◌+◌, ◌-◌}
use Rattle.lalrpop_state_graph.specs.Words.{AreSameLists}
use Rattle.lalrpop_state_graph.proofs.state_graph.lists.grow.Given as goal

abbrev pub invariant-loop-alloc : goal.invariant-loop-alloc
invariant-loop-alloc g l = AreSameLists l.initial.lists.items l.lists.items

abbrev pub decreases-loop-alloc : goal.decreases-loop-alloc
decreases-loop-alloc g l = l.number + 1 - length l.lists.items
