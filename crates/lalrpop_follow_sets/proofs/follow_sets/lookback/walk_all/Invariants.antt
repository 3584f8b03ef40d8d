use Rattle.std.proofs.Common.{take}
use Rattle.lalrpop_follow_sets.proofs.theory.follow_sets.ExpansionWalks.{WalksOver}
use Rattle.lalrpop_follow_sets.proofs.follow_sets.lookback.walk_all.Given as goal

abbrev pub invariant-loop-expansion : goal.invariant-loop-expansion
invariant-loop-expansion l = WalksOver l.fn.pass l.node l.from (take l.expansion-index l.expansions) l.fn.ends.items l.ends.items l.fn.lookback.items l.lookback.items
