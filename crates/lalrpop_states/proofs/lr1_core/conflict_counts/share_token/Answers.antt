use Rattle.lalrpop_states.proofs.theory.conflicts.ConflictCounts.{share_is}
use Rattle.lalrpop_states.proofs.lr1_core.conflict_counts.share_token.Goals as goal

pub returns : goal.returns
returns c = share_is c.args.first.now.0 c.args.second.now.0 c.is_intersecting.result c.is_intersecting.ensures.yes c.is_intersecting.ensures.no
