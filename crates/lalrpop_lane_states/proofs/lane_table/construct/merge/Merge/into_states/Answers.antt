use Rattle.lalrpop_lane_states.proofs.theory.merges.LaneCopies.{copies_copying}
use Rattle.lalrpop_lane_states.proofs.lane_table.construct.merge.Merge.into_states.Goals as goal

pub returns-clause-copying : goal.returns-clause-copying
returns-clause-copying c = λ exact handed terminals copies. copies_copying exact handed c.args.self.originals.items c.args.self.states.items copies terminals
