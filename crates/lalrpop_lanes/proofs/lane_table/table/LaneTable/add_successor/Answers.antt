use Rattle.std.proofs.Common.{refl}
use Rattle.std.proofs.lemmas.Result.{err_from_is_err_and}
use Rattle.lalrpop_lanes.proofs.theory.lane_tables.LaneTables.{same_successors, adds_successor}
use Rattle.lalrpop_lanes.proofs.lane_table.table.LaneTable.add_successor.Goals as goal

pub returns-in_err-pushed-clause-err : goal.returns-in_err-pushed-clause-err
returns-in_err-pushed-clause-err c =
    let p = err_from_is_err_and c.from_residual.result c.from_residual.ensures.1 in
    rw p.1 (same_successors c.args.state _ _ refl refl c.iter-before.ensures.rising c.iter-after.ensures.rising c.in_err-pushed.ensures.err c.in_err-pushed.ensures.others)

pub returns-clause-added : goal.returns-clause-added
returns-clause-added c = adds_successor c.args.state c.args.successor _ _ refl refl c.iter-before.ensures.rising c.iter-after.ensures.rising c.in_ok-pushed.ensures.pushed c.in_ok-pushed.ensures.others
