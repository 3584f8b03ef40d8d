use Rattle.std.proofs.Common.{take}
use Rattle.lalrpop_collections.specs.Words.{Visits}
use Rattle.lalrpop_useful.specs.Words.{IsOnRightSide}
use Rattle.lalrpop_useful.proofs.reachable.visit_right_sides.Given as goal

abbrev pub invariant-loop-production : goal.invariant-loop-production
invariant-loop-production l = Visits (IsOnRightSide (take l.production-index l.productions)) l.fn.walk l.walk
