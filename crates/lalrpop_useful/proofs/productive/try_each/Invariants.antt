use Rattle.std.proofs.Common.{take}
use Rattle.lalrpop_useful.specs.Words.{AreTried}
use Rattle.lalrpop_useful.proofs.productive.try_each.Given as goal

abbrev pub invariant-loop-production : goal.invariant-loop-production
invariant-loop-production l = AreTried (take l.production-index l.productions) l.fn.walk l.walk
