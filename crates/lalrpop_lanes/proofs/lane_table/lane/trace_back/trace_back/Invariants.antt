use Rattle.std.proofs.Common.{length, ◌+◌, ◌-◌}
use Rattle.lalrpop_lanes.specs.Words.{AreExpanded}
use Rattle.lalrpop_lanes.proofs.theory.lanes.LaneTraces.{IsTracing, all_places}
use Rattle.lalrpop_lanes.proofs.lane_table.lane.trace_back.trace_back.Given as goal

abbrev pub invariant-loop-place : goal.invariant-loop-place
invariant-loop-place g l = IsTracing l.automaton l.fn.first l.conflict.index l.fn.table l.table l.walk × AreExpanded l.automaton l.conflict.index l.table l.walk l.expanded.keys

abbrev pub decreases-loop-place : goal.decreases-loop-place
decreases-loop-place g l = length (all_places l.automaton l.fn.first) + length l.walk.waiting.items - length l.walk.visited.keys
