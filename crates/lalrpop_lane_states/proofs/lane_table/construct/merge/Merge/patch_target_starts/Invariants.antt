use Rattle.lalrpop_lane_states.proofs.theory.merges.LanePatches.{ArePatched}
use Rattle.lalrpop_lane_states.proofs.lane_table.construct.merge.Merge.patch_target_starts.Given as goal

abbrev pub invariant-loop-index : goal.invariant-loop-index
invariant-loop-index l = ArePatched l.fn.actions.keys l.initial.self l.self l.index
