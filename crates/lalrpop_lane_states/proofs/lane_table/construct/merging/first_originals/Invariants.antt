use Rattle.std.proofs.Common.{◌≡◌, map, take}
use Rattle.lalrpop_base.specs.Words.{number_in}
use Rattle.lalrpop_lane_states.proofs.lane_table.construct.merging.first_originals.Given as goal

abbrev pub invariant-loop-original : goal.invariant-loop-original
invariant-loop-original l = l.list.items ≡ map (number_in l.first) (take l.original-index l.originals)
