use Rattle.lalrpop_follow_sets.specs.follow_sets.FollowWalks.{TakesBits}
use Rattle.lalrpop_follow_sets.proofs.theory.follow_sets.InitialSets.{EndBelow}
use Rattle.lalrpop_follow_sets.proofs.follow_sets.initial_sets.add_ends.Given as goal

abbrev pub invariant-loop-node : goal.invariant-loop-node
invariant-loop-node l = TakesBits (EndBelow l.pass l.node) l.fn.sets.items l.sets.items
