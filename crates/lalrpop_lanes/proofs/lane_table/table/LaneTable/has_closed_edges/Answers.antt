use Rattle.std.proofs.Common.{refl}
use Rattle.lalrpop_lanes.proofs.theory.lane_tables.LaneTableStates.{EachSoFar, HasClosed, each_more, closed_all}
use Rattle.lalrpop_collections.proofs.theory.lists.EachLemmas.{far_in, far_more, far_end}
use Rattle.lalrpop_lanes.proofs.lane_table.table.LaneTable.has_closed_edges.Goals as goal

pub returns-then-not-are_closed : goal.returns-then-not-are_closed
returns-then-not-are_closed c =
    let P = HasClosed c.args.count c.args.self.now in
    let at = far_in (EachSoFar P) _ _ _ (c.in-Some.state.now, c.in-Some.successors.now) c.loop-state.invariant.2 c.in-Some.ensures.steps in
    (λ e. cc, λ each. c.if-not-are_closed.ensures.1 (λ right there. each c.in-Some.state.now right (c.in-Some.successors.now, at, there)))

pub loop-state-preserved : goal.loop-state-preserved
loop-state-preserved c =
    let P = HasClosed c.args.count c.args.self.now in (
      tt,
      tt,
      far_more (EachSoFar P) (EachSoFar P) _ _ _ (c.in-Some.state.now, c.in-Some.successors.now) c.loop-state.invariant.2 c.in-Some.ensures.steps
          (each_more P (c.in-Some.state.now, c.in-Some.successors.now) (c.if-not-are_closed.ensures.0 refl)),
    )

pub returns : goal.returns
returns c =
    let P = HasClosed c.args.count c.args.self.now in
    (λ _. closed_all c.args.count c.args.self.now (far_end (EachSoFar P) _ _ c.in-None.ensures.steps.0 c.loop-state.invariant.2), λ _. refl)
