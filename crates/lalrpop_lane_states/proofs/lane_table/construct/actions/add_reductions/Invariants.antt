use Rattle.std.proofs.Common.{◌++◌, List, map, take}
use Rattle.lalrpop_states.specs.declared.lr1_core.state.Action.{Action as TheAction}
use Rattle.lalrpop_lane_states.specs.Words.{AreActions, reduce_action}
use Rattle.lalrpop_lane_states.proofs.lane_table.construct.actions.add_reductions.Given as goal

abbrev pub invariant-loop-reduction : goal.invariant-loop-reduction
invariant-loop-reduction l = (asked : List TheAction) → AreActions asked l.fn.actions.keys → AreActions (asked ++ map reduce_action (take l.reduction-index l.reductions)) l.actions.keys
