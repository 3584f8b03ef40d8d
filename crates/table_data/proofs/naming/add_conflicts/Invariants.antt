use Rattle.std.proofs.Common.{take}
use Rattle.std.specs.List.{flat_map}
use Rattle.table_data.specs.Naming.{conflict_sets}
use Rattle.table_data.specs.Sets.{AddsSets}
use Rattle.table_data.proofs.naming.add_conflicts.Given as goal

-- the sets so far are added
abbrev pub invariant-loop-conflict : goal.invariant-loop-conflict
invariant-loop-conflict l = AddsSets (flat_map conflict_sets (take l.conflict-index l.conflicts)) l.fn.sets l.sets
