use Rattle.lalrpop_lanes.proofs.theory.lane_tables.LaneTables.{exactly_next, none_next, entry_next}
use Rattle.lalrpop_lanes.proofs.lane_table.table.LaneTable.successors.Goals as goal

pub returns-clause-exactly : goal.returns-clause-exactly
returns-clause-exactly c = exactly_next c.args.self.now.successors c.args.state c.iter-rising.ensures.rising c.get.result c.get.ensures

pub returns-clause-none : goal.returns-clause-none
returns-clause-none c = none_next c.args.self.now.successors c.args.state c.iter-rising.ensures.rising c.get.result c.get.ensures

pub returns-clause-entry : goal.returns-clause-entry
returns-clause-entry c = entry_next c.args.self.now.successors c.args.state c.get.result c.get.ensures
