use Rattle.std.proofs.Common.{take}
use Rattle.lalrpop_follow_sets.proofs.theory.follow_sets.TransitionNodes.{HaveNodes}
use Rattle.lalrpop_follow_sets.proofs.follow_sets.nodes.transition_nodes.Given as goal

abbrev pub invariant-loop-state : goal.invariant-loop-state
invariant-loop-state l = HaveNodes l.symbols (take l.state l.states) l.firsts.items l.pairs.items
