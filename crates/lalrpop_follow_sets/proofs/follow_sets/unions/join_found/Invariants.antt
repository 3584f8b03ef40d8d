use Rattle.lalrpop_follow_sets.specs.follow_sets.FollowWalks.{TakesBits}
use Rattle.lalrpop_follow_sets.proofs.theory.follow_sets.FollowUnions.{GoesBefore}
use Rattle.lalrpop_follow_sets.proofs.follow_sets.unions.join_found.Given as goal

abbrev pub invariant-loop-place : goal.invariant-loop-place
invariant-loop-place l = TakesBits (GoesBefore l.found l.item l.reductions l.place) l.fn.unions.items l.unions.items
