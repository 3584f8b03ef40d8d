use Rattle.lalrpop_lane_states.proofs.theory.merges.Merges.{merging_coherent}
use Rattle.lalrpop_lane_states.proofs.lane_table.construct.merge.Merge.start.Goals as goal

pub returns-clause-coherent : goal.returns-clause-coherent
returns-clause-coherent c = merging_coherent c.walk.new.self c.walk.ensures.advances.ready
