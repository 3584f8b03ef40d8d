use Rattle.std.proofs.Common.{◌≡◌, take}
use Rattle.lalrpop_lanes.proofs.lane_table.context_set.ContextSet.clone.Given as goal

abbrev pub invariant-loop-column : goal.invariant-loop-column
invariant-loop-column l = l.values.items ≡ take l.column-index l.self
