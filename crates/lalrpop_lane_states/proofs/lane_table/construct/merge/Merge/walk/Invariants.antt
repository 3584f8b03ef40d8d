use Rattle.lalrpop_lane_states.specs.Words.{IsMergeWalk, IsVisited, most_joins}
use Rattle.lalrpop_lane_states.proofs.lane_table.construct.merge.Merge.walk.Given as goal

abbrev pub invariant-loop-join : goal.invariant-loop-join
invariant-loop-join l = record {
  walk : IsMergeWalk l.fn.self l.self l.pending.items;
  there : IsVisited l.self l.fn.state.0;
}

abbrev pub decreases-loop-join : goal.decreases-loop-join
decreases-loop-join l = most_joins l.self l.pending.items
