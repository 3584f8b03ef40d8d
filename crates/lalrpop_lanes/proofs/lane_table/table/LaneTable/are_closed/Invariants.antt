use Rattle.lalrpop_lanes.specs.Words.{IsClosedEdge}
use Rattle.lalrpop_lanes.proofs.theory.lane_tables.LaneTableStates.{EachSoFar}
use Rattle.lalrpop_collections.proofs.theory.lists.EachLemmas.{HoldsSoFar}
use Rattle.lalrpop_lanes.proofs.lane_table.table.LaneTable.are_closed.Given as goal

abbrev pub invariant-loop-successor : goal.invariant-loop-successor
invariant-loop-successor l =
    (goal.iterator-loop-successor).can_next l.successor-iterator ×
    (goal.iterator-loop-successor).is_finite l.successor-iterator ×
    HoldsSoFar (EachSoFar (IsClosedEdge l.count l.self l.state)) l.successor-iterator l.successors.keys
