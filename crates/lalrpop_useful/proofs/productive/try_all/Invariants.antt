use Rattle.std.proofs.Common.{map, take}
use Rattle.std.specs.Borrow.{Bor}
use Rattle.lalrpop_useful.specs.Words.{AreTried}
use Rattle.lalrpop_useful.proofs.Types.{Production}
use Rattle.lalrpop_useful.proofs.productive.try_all.Given as goal

abbrev pub invariant-loop-production : goal.invariant-loop-production
invariant-loop-production l = AreTried (map (λ (p : Bor Production). p.now) (take l.production-index l.all)) l.fn.walk l.walk
