use Rattle.lalrpop_useful.specs.useful.KnownCycles.{IsKnown}
use Rattle.lalrpop_useful.proofs.cycles.known_in_order.Given as goal

abbrev pub invariant-loop-name : goal.invariant-loop-name
invariant-loop-name l = IsKnown l.grammar l.known
