use Rattle.std.proofs.Common.{take}
use Rattle.lalrpop_collections.specs.Words.{Visits}
use Rattle.lalrpop_useful.specs.Words.{IsAloneOn}
use Rattle.lalrpop_useful.proofs.cycles.visit_right_sides.Given as goal

abbrev pub invariant-loop-production : goal.invariant-loop-production
invariant-loop-production l = Visits (IsAloneOn l.sets.productions (take l.production-index l.productions)) l.fn.walk l.walk
