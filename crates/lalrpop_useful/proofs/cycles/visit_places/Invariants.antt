use Rattle.lalrpop_collections.specs.Words.{Visits}
use Rattle.lalrpop_useful.proofs.theory.useful.Cycles.{IsAloneBelow}
use Rattle.lalrpop_useful.proofs.cycles.visit_places.Given as goal

abbrev pub invariant-loop-place : goal.invariant-loop-place
invariant-loop-place l = Visits (IsAloneBelow l.sets.productions l.symbols l.place) l.fn.walk l.walk
