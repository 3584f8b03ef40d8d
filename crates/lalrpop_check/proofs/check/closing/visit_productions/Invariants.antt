use Rattle.std.proofs.Common.{take}
use Rattle.lalrpop_base.specs.Words.{IsOneAtStart, Visits}
use Rattle.lalrpop_check.proofs.check.closing.visit_productions.Given as goal

abbrev pub invariant-loop-production : goal.invariant-loop-production
invariant-loop-production l = Visits (IsOneAtStart (take l.production-index l.production-items)) l.fn.walk l.walk
