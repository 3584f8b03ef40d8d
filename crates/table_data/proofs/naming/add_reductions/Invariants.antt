use Rattle.std.proofs.Common.{take}
use Rattle.std.specs.List.{flat_map}
use Rattle.table_data.specs.Naming.{reduction_sets}
use Rattle.table_data.specs.Sets.{AddsSets}
use Rattle.table_data.proofs.naming.add_reductions.Given as goal

-- the sets so far are added
abbrev pub invariant-loop-reduction : goal.invariant-loop-reduction
invariant-loop-reduction l = AddsSets (flat_map reduction_sets (take l.reduction-index l.reductions)) l.fn.sets l.sets
