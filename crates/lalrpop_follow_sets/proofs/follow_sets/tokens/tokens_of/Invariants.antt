use Rattle.std.proofs.Common.{take}
use Rattle.lalrpop_follow_sets.specs.follow_sets.FollowWalks.{AreTokensOfSymbols}
use Rattle.lalrpop_follow_sets.proofs.follow_sets.tokens.tokens_of.Given as goal

abbrev pub invariant-loop-symbol : goal.invariant-loop-symbol
invariant-loop-symbol l = AreTokensOfSymbols l.terminals (take l.symbol-index l.symbols) l.tokens.items
