use Rattle.lalrpop_lanes.proofs.theory.lanes.Contexts.{IsUnionUntil}
use Rattle.lalrpop_lanes.proofs.lane_table.context_set.ContextSet.union.Given as goal

abbrev pub invariant-loop-index : goal.invariant-loop-index
invariant-loop-index l = IsUnionUntil l.first l.second l.union l.index
