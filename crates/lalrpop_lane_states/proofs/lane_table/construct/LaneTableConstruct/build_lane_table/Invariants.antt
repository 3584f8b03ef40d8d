use Rattle.lalrpop_lane_states.proofs.theory.lanes.LaneTracing.{IsTracing}
use Rattle.lalrpop_lane_states.proofs.lane_table.construct.LaneTableConstruct.build_lane_table.Given as goal

abbrev pub invariant-loop-action : goal.invariant-loop-action
invariant-loop-action l = IsTracing l.fn.self l.fn.states l.fn.inconsistent_state l.fn.actions.keys l.place l.tracer l.action-iterator
