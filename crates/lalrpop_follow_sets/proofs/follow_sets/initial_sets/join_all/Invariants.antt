use Rattle.lalrpop_follow_sets.specs.follow_sets.FollowWalks.{TakesBits}
use Rattle.lalrpop_follow_sets.proofs.theory.follow_sets.InitialSets.{RestBelow}
use Rattle.lalrpop_follow_sets.proofs.follow_sets.initial_sets.join_all.Given as goal

abbrev pub invariant-loop-state : goal.invariant-loop-state
invariant-loop-state l = TakesBits (RestBelow l.pass l.state) l.fn.sets.items l.sets.items
