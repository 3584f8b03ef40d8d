use Rattle.std.proofs.Common.{◌≡◌, ◌<◌, ◌∙◌, Err, rules, arith, subst, sym}
use Rattle.std.proofs.lemmas.Grind.{common_steps}
use Rattle.lalrpop_lanes.specs.Words.{ThisRow}
use Rattle.lalrpop_lanes.proofs.theory.lane_tables.LaneColumns.{gathering_start, gathering_more, gathering_past, gathering_overlap, gathering_end, stands_in, row_of, row_overlaps}
use Rattle.lalrpop_state_graph.proofs.theory.graphs.StateNumbers.{same_state, other_state}
use Rattle.lalrpop_lanes.proofs.theory.lane_tables.LaneTables.{in_range_of}
use Rattle.lalrpop_lanes.proofs.lane_table.table.LaneTable.context_set.Goals as goal

pub loop-row-init : goal.loop-row-init
loop-row-init c =
    let same : c.into_iter-row-iterator.result ≡ c.args.self.now.lookaheads.entries = cc in
    (tt, tt, rw same (gathering_start (ThisRow c.args.state) _ _ _ c.in_ok-columns.ensures.counted c.in_ok-columns.ensures.empty))

pub insert-requires : goal.insert-requires
insert-requires c =
    let g = c.loop-row.invariant.2 in
    let cell = c.in-Some.field-0-0.now in
    let at = stands_in (ThisRow c.args.state) _ _ _ _ _ g cell.0 cell.1 c.in-Some.tokens.now c.in-Some.ensures.steps in
    record { there = subst (λ n. cell.1.index < n) (sym g.counted) (in_range_of c.args.self.now cell.0 cell.1.index (c.in-Some.tokens.now, at)) }

pub loop-row-preserved-in_ok-insert : goal.loop-row-preserved-in_ok-insert
loop-row-preserved-in_ok-insert c =
    let g = c.loop-row.invariant.2 in
    let cell = c.in-Some.field-0-0.now in
    let this = same_state cell.0 c.args.state (sym c.eq.ensures ∙ c.if-eq.true) in
    let at = stands_in (ThisRow c.args.state) _ _ _ _ _ g cell.0 cell.1 c.in-Some.tokens.now c.in-Some.ensures.steps in
    (tt, tt, gathering_more (ThisRow c.args.state) _ _ _ _ _ g cell.0 cell.1 c.in-Some.tokens.now c.in-Some.ensures.steps _ this (in_range_of c.args.self.now cell.0 cell.1.index (c.in-Some.tokens.now, at)) c.in_ok-insert.ensures.joined c.in_ok-insert.ensures.apart)

pub returns-in_err-insert-clause-overlapping : goal.returns-in_err-insert-clause-overlapping
returns-in_err-insert-clause-overlapping c =
    let g = c.loop-row.invariant.2 in
    let cell = c.in-Some.field-0-0.now in
    let this = same_state cell.0 c.args.state (sym c.eq.ensures ∙ c.if-eq.true) in
    let refused : c.from_residual-in_err-insert.result ≡ Err c.in_err-insert.field-0.0 = first_of (search rules, grind (arith, common_steps)) in
    rw refused (λ e. row_overlaps c.args.self.now c.args.state (gathering_overlap (ThisRow c.args.state) _ _ _ _ _ g cell.0 cell.1 c.in-Some.tokens.now c.in-Some.ensures.steps this (c.in_err-insert.ensures.overlapping e)))

pub loop-row-preserved : goal.loop-row-preserved
loop-row-preserved c =
    let g = c.loop-row.invariant.2 in
    let cell = c.in-Some.field-0-0.now in
    let other = other_state cell.0 c.args.state (sym c.eq.ensures ∙ c.if-eq.false) in
    (tt, tt, gathering_past (ThisRow c.args.state) _ _ _ _ _ g cell.0 cell.1 c.in-Some.tokens.now c.in-Some.ensures.steps other)

pub returns-clause-row : goal.returns-clause-row
returns-clause-row c =
    let g = c.loop-row.invariant.2 in
    row_of c.args.self.now c.args.state _ g.counted (gathering_end (ThisRow c.args.state) _ _ _ _ c.in-None.ensures.steps.0 g)

pub returns-clause-disjoint : goal.returns-clause-disjoint
returns-clause-disjoint c = (gathering_end (ThisRow c.args.state) _ _ _ _ c.in-None.ensures.steps.0 c.loop-row.invariant.2).disjoint
