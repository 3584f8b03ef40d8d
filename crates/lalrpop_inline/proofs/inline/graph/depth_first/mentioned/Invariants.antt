use Rattle.std.proofs.Common.{◌≡◌, take}
use Rattle.lalrpop_inline.specs.Words.{mentioned_in}
use Rattle.lalrpop_inline.proofs.inline.graph.depth_first.mentioned.Given as goal

abbrev pub invariant-loop-production : goal.invariant-loop-production
invariant-loop-production l = l.names.items ≡ mentioned_in (take l.production-index l.productions)
