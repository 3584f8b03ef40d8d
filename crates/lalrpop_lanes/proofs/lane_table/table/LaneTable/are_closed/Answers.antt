use Rattle.std.proofs.Common.{refl}
use Rattle.lalrpop_lanes.specs.Words.{IsClosedEdge}
use Rattle.lalrpop_lanes.proofs.theory.lane_tables.LaneTableStates.{EachSoFar, each_more}
use Rattle.lalrpop_collections.proofs.theory.lists.EachLemmas.{far_in, far_more, far_end}
use Rattle.lalrpop_lanes.proofs.lane_table.table.LaneTable.are_closed.Goals as goal

pub returns-then-not-is_closed_edge : goal.returns-then-not-is_closed_edge
returns-then-not-is_closed_edge c =
    let P = IsClosedEdge c.args.count c.args.self.now c.args.state in
    let at = far_in (EachSoFar P) _ _ _ c.in-Some.successor.now c.loop-successor.invariant.2 c.in-Some.ensures.steps in
    (λ e. cc, λ each. c.if-not-is_closed_edge.ensures.1 (each c.in-Some.successor.now at))

pub loop-successor-preserved : goal.loop-successor-preserved
loop-successor-preserved c =
    let P = IsClosedEdge c.args.count c.args.self.now c.args.state in (
      tt,
      tt,
      far_more (EachSoFar P) (EachSoFar P) _ _ _ c.in-Some.successor.now c.loop-successor.invariant.2 c.in-Some.ensures.steps
          (each_more P c.in-Some.successor.now (c.if-not-is_closed_edge.ensures.0 refl)),
    )

pub returns : goal.returns
returns c = let P = IsClosedEdge c.args.count c.args.self.now c.args.state in (λ _. far_end (EachSoFar P) _ _ c.in-None.ensures.steps.0 c.loop-successor.invariant.2, λ _. refl)
