use Rattle.lalrpop_lanes.proofs.theory.lanes.Contexts.{AreApartUntil}
use Rattle.lalrpop_lanes.proofs.lane_table.context_set.ContextSet.meets_other.Given as goal

abbrev pub invariant-loop-other : goal.invariant-loop-other
invariant-loop-other l = AreApartUntil l.self l.index.index l.tokens l.other
