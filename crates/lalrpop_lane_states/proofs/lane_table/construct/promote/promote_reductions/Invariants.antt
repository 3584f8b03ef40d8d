use Rattle.std.proofs.Common.{◌≡◌, map, take}
use Rattle.lalrpop_lane_states.specs.Words.{promoted_reduction}
use Rattle.lalrpop_lane_states.proofs.lane_table.construct.promote.promote_reductions.Given as goal

abbrev pub invariant-loop-reduction : goal.invariant-loop-reduction
invariant-loop-reduction l = l.list.items ≡ map (promoted_reduction l.all) (take l.reduction-index l.reductions)
