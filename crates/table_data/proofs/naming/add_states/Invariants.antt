use Rattle.std.proofs.Common.{take}
use Rattle.std.specs.List.{flat_map}
use Rattle.table_data.specs.Naming.{state_sets}
use Rattle.table_data.specs.Sets.{AddsSets}
use Rattle.table_data.proofs.naming.add_states.Given as goal

-- the sets so far are added
abbrev pub invariant-loop-state : goal.invariant-loop-state
invariant-loop-state l = AddsSets (flat_map (state_sets l.all) (take l.state-index l.states)) l.fn.sets l.sets
