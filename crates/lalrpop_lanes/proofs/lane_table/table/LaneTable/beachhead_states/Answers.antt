use Rattle.std.proofs.Common.{sym, ◌∙◌}
use mathlib.Core.Bool.{true≢false}
use Rattle.std.proofs.lemmas.Map.Views.{btree_set_contains_iff}
use Rattle.lalrpop_lanes.proofs.theory.lane_tables.LaneTableStates.{BeachSoFar, beach_more, beach_past, beachheads}
use Rattle.lalrpop_collections.proofs.theory.lists.EachLemmas.{far_more, far_end}
use Rattle.lalrpop_lanes.proofs.theory.lane_tables.LaneTables.{state_exact}
use Rattle.lalrpop_state_graph.proofs.theory.graphs.StateGraphs.{state_total}
use Rattle.lalrpop_lanes.proofs.lane_table.table.LaneTable.beachhead_states.Goals as goal

pub loop-state-preserved-in_ok-insert : goal.loop-state-preserved-in_ok-insert
loop-state-preserved-in_ok-insert c =
    let cell = c.in-Some.field-0-0.now in
    let reached = c.in_ok-reached.reached in
    far_more (BeachSoFar reached.keys c.loop-state.states.keys) (BeachSoFar reached.keys c.insert.new.self.keys) _ _ _ (cell, c.in-Some._tokens.now) c.loop-state.invariant c.in-Some.ensures.steps
    (beach_more reached.keys c.loop-state.states.keys c.insert.new.self.keys cell c.in-Some._tokens.now
    (λ there. true≢false (sym ((btree_set_contains_iff state_total state_exact reached cell.0).1 there) ∙ sym c.contains.ensures ∙ c.if-not-contains.true)) c.in_ok-insert.ensures.keys)

pub loop-state-preserved : goal.loop-state-preserved
loop-state-preserved c =
    let cell = c.in-Some.field-0-0.now in
    let reached = c.in_ok-reached.reached in
    far_more (BeachSoFar reached.keys c.loop-state.states.keys) (BeachSoFar reached.keys c.loop-state.states.keys) _ _ _ (cell, c.in-Some._tokens.now) c.loop-state.invariant c.in-Some.ensures.steps
    (beach_past reached.keys c.loop-state.states.keys cell c.in-Some._tokens.now ((btree_set_contains_iff state_total state_exact reached cell.0).0 (sym c.contains.ensures ∙ c.if-not-contains.false)))

pub returns : goal.returns
returns c = beachheads c.args.self.now c.in_ok-reached.reached.keys c.loop-state.states.keys c.in_ok-reached.ensures (far_end (BeachSoFar c.in_ok-reached.reached.keys c.loop-state.states.keys) _ _ c.in-None.ensures.steps.0 c.loop-state.invariant)
