use Rattle.lalrpop_follow_sets.proofs.theory.follow_sets.ExpansionWalks.{WalksFrom}
use Rattle.lalrpop_follow_sets.proofs.follow_sets.includes.includes.Given as goal

abbrev pub invariant-loop-node : goal.invariant-loop-node
invariant-loop-node l = WalksFrom l.fn.pass l.node l.edges.items l.lookback.items
