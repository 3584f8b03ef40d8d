use Rattle.std.proofs.Common.{sym}
use Rattle.std.specs.BTreeMap.{is_at}
use Rattle.std.proofs.lemmas.Map.Steps.{set_value_same}
use Rattle.std.proofs.lemmas.Result.{err_from_is_err_and}
use Rattle.lalrpop_lanes.proofs.theory.lane_tables.LaneTables.{cell_cmp, cell_exact, cell_total, joined_known, joined_fresh}
use Rattle.lalrpop_collections.proofs.theory.lists.Updates.{inserted, set_replaced}
use Rattle.lalrpop_lanes.proofs.lane_table.table.join_at.Goals as goal

pub returns-in_err-grew-clause-err : goal.returns-in_err-grew-clause-err
returns-in_err-grew-clause-err c =
    let holds = c.get_mut.follows.holds c.union_with.new.self in
    let p = err_from_is_err_and c.from_residual.result c.from_residual.ensures.1 in
    rw p.1 (rw (holds.0, c.in_err-grew.ensures.err) (set_value_same (is_at (cell_cmp c.args.cell)) c.args.cells.now.entries c.in-Some.known.now (sym c.in-Some.ensures.value)))

pub returns-in-Some-clause-joined : goal.returns-in-Some-clause-joined
returns-in-Some-clause-joined c =
    let holds = c.get_mut.follows.holds c.union_with.new.self in
    joined_known c.args.cell c.args.tokens.now c.in_ok-grew.grew c.in-Some.known.now c.union_with.new.self c.args.cells.now.entries _ c.in_ok-grew.ensures.joined c.in_ok-grew.ensures.told
    (rw holds.0 (set_replaced cell_cmp cell_exact cell_total c.args.cell c.union_with.new.self c.in-Some.known.now c.args.cells.now.entries (sym c.in-Some.ensures.value)))

pub returns-clause-joined : goal.returns-clause-joined
returns-clause-joined c =
    let put = rw (c.in_ok-copy.ensures, c.get_mut.follows.holds-at-none) at c.in_ok-insert.ensures.entries in
    joined_fresh c.args.cell c.args.tokens.now c.args.cells.now.entries _
    (rw put (inserted cell_cmp cell_exact cell_total c.args.cell c.args.tokens.now c.args.cells.now.entries (sym c.in_default.ensures.value)))
