use Rattle.std.proofs.Common.{◌≡◌, ◌<◌, Err, rules, arith, subst, sym}
use Rattle.std.proofs.lemmas.Grind.{common_steps}
use Rattle.lalrpop_lanes.proofs.theory.lane_tables.LaneColumns.{AnyRow, gathering_start, gathering_more, gathering_overlap, gathering_end, stands_in, columns_of, columns_overlap}
use Rattle.lalrpop_lanes.proofs.theory.lane_tables.LaneTables.{in_range_of}
use Rattle.lalrpop_lanes.proofs.lane_table.table.LaneTable.columns.Goals as goal

pub loop-state-init : goal.loop-state-init
loop-state-init c =
    let same : c.into_iter-state-iterator.result ≡ c.args.self.now.lookaheads.entries = cc in
    (tt, tt, rw same (gathering_start AnyRow _ _ _ c.in_ok-columns.ensures.counted c.in_ok-columns.ensures.empty))

pub insert-requires : goal.insert-requires
insert-requires c =
    let g = c.loop-state.invariant.2 in
    let cell = c.in-Some.field-0-0.now in
    let at = stands_in AnyRow _ _ _ _ _ g cell.0 cell.1 c.in-Some.tokens.now c.in-Some.ensures.steps in
    record { there = subst (λ n. cell.1.index < n) (sym g.counted) (in_range_of c.args.self.now cell.0 cell.1.index (c.in-Some.tokens.now, at)) }

pub loop-state-preserved : goal.loop-state-preserved
loop-state-preserved c =
    let g = c.loop-state.invariant.2 in
    let cell = c.in-Some.field-0-0.now in
    let at = stands_in AnyRow _ _ _ _ _ g cell.0 cell.1 c.in-Some.tokens.now c.in-Some.ensures.steps in
    (tt, tt, gathering_more AnyRow _ _ _ _ _ g cell.0 cell.1 c.in-Some.tokens.now c.in-Some.ensures.steps _ tt (in_range_of c.args.self.now cell.0 cell.1.index (c.in-Some.tokens.now, at)) c.in_ok-insert.ensures.joined c.in_ok-insert.ensures.apart)

pub returns-in_err-insert-clause-overlapping : goal.returns-in_err-insert-clause-overlapping
returns-in_err-insert-clause-overlapping c =
    let g = c.loop-state.invariant.2 in
    let cell = c.in-Some.field-0-0.now in
    let refused : c.from_residual-in_err-insert.result ≡ Err c.in_err-insert.field-0.0 = first_of (search rules, grind (arith, common_steps)) in
    rw refused (λ e. columns_overlap c.args.self.now (gathering_overlap AnyRow _ _ _ _ _ g cell.0 cell.1 c.in-Some.tokens.now c.in-Some.ensures.steps tt (c.in_err-insert.ensures.overlapping e)))

pub returns-clause-columns : goal.returns-clause-columns
returns-clause-columns c =
    let g = c.loop-state.invariant.2 in
    columns_of c.args.self.now _ g.counted (gathering_end AnyRow _ _ _ _ c.in-None.ensures.steps.0 g)

pub returns-clause-disjoint : goal.returns-clause-disjoint
returns-clause-disjoint c = (gathering_end AnyRow _ _ _ _ c.in-None.ensures.steps.0 c.loop-state.invariant.2).disjoint
