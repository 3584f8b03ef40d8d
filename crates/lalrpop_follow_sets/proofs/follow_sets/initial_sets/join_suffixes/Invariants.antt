use Rattle.std.proofs.Common.{take}
use Rattle.lalrpop_follow_sets.specs.follow_sets.FollowWalks.{TakesBits}
use Rattle.lalrpop_follow_sets.proofs.theory.follow_sets.InitialSets.{RestAmong}
use Rattle.lalrpop_follow_sets.proofs.follow_sets.initial_sets.join_suffixes.Given as goal

abbrev pub invariant-loop-item : goal.invariant-loop-item
invariant-loop-item l = TakesBits (RestAmong l.pass l.state (take l.item-index l.item-items)) l.fn.sets.items l.sets.items
