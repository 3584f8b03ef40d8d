use Rattle.std.proofs.Common.{refl, sym, ◌∙◌}
use Rattle.lalrpop_state_graph.proofs.theory.graphs.StateNumbers.{same_state, other_state}
use Rattle.lalrpop_lanes.proofs.theory.lane_tables.LaneTableStates.{EachSoFar, IsOther, each_more, no_cells, cell_there}
use Rattle.lalrpop_collections.proofs.theory.lists.EachLemmas.{far_in, far_more, far_end}
use Rattle.lalrpop_lanes.proofs.lane_table.table.LaneTable.has_cell.Goals as goal

pub returns-then-eq : goal.returns-then-eq
returns-then-eq c =
    let cell = c.in-Some.field-0-0.now in
    let same = same_state cell.0 c.args.state (sym c.eq.ensures ∙ c.if-eq.true) in
    let at = far_in (EachSoFar (IsOther c.args.state)) _ _ _ (cell, c.in-Some._tokens.now) c.loop-row.invariant.2 c.in-Some.ensures.steps in
    (λ _. cell_there c.args.self.now.lookaheads.entries cell c.in-Some._tokens.now c.args.state same at, λ _. refl)

pub loop-row-preserved : goal.loop-row-preserved
loop-row-preserved c =
    let cell = c.in-Some.field-0-0.now in
    let P = IsOther c.args.state in (
      tt,
      tt,
      far_more (EachSoFar P) (EachSoFar P) _ _ _ (cell, c.in-Some._tokens.now) c.loop-row.invariant.2 c.in-Some.ensures.steps
          (each_more P (cell, c.in-Some._tokens.now) (other_state cell.0 c.args.state (sym c.eq.ensures ∙ c.if-eq.false))),
    )

pub returns : goal.returns
returns c = (λ e. cc, λ h. absurd (no_cells c.args.state c.args.self.now.lookaheads.entries (far_end (EachSoFar (IsOther c.args.state)) _ _ c.in-None.ensures.steps.0 c.loop-row.invariant.2) h))
