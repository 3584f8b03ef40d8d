use Rattle.lalrpop_follow_sets.proofs.theory.follow_sets.FollowTokens.{ShareNoneBefore}
use Rattle.lalrpop_follow_sets.proofs.follow_sets.tokens.share_token.Given as goal

abbrev pub invariant-loop-set : goal.invariant-loop-set
invariant-loop-set l = ShareNoneBefore l.fn.first l.sets l.set-index l.used
