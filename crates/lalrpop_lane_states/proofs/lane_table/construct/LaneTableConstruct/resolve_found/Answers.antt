use Rattle.std.proofs.Common.{List, arith}
use Rattle.lalrpop_base.specs.Words.{Bits, rules_of}
use Rattle.lalrpop_lane_states.proofs.Types.{State}
use Rattle.lalrpop_collections.proofs.theory.lists.Places.{slice_get_at}
use Rattle.lalrpop_lane_states.proofs.theory.lane_states.CopiedPasses.{found_here, resolved_none, resolved_on, resolved_up_to}
use Rattle.lalrpop_lane_states.proofs.theory.lane_states.LaneAnswers.{was_met, was_resolved}
use Rattle.lalrpop_lane_states.proofs.lane_table.construct.LaneTableConstruct.resolve_found.Goals as goal

pub loop-index-init : goal.loop-index-init
loop-index-init c = resolved_none (rules_of c.args.self.now.grammar.now) c.args.self.now.start c.args.self.now.max_copies c.args.found.now c.args.list.now c.args.first c.args.states.now.items c.requires.within c.requires.copies c.requires.found

pub resolve_state-requires-clause-copies : goal.resolve_state-requires-clause-copies
resolve_state-requires-clause-copies c = c.loop-index.invariant.made

pub resolve_state-requires-clause-found : goal.resolve_state-requires-clause-found
resolve_state-requires-clause-found c =
    let h = c.loop-index.invariant in
    let states : List (State Bits) = c.loop-index.states.items in
    let counted = ((h.found_all).numbered).counted in
    let at = slice_get_at c.args.list.now c.loop-index.index c.index-list-index.result (omega arith) c.index-list-index.is in
    found_here (rules_of c.args.self.now.grammar.now) c.args.self.now.start c.args.self.now.max_copies c.args.found.now c.args.list.now c.args.first c.args.states.now.items c.loop-index.index states h c.loop-index.index c.index-list-index.result at

pub loop-index-smaller : goal.loop-index-smaller
loop-index-smaller c =
    let counted = (c.in_ok-resolve_state.ensures.step).counted in
    let test = c.loop-index-test.true in
    let len = c.len.ensures in
    let ok = c.loop-index.states.ok in
    omega arith

pub loop-index-preserved : goal.loop-index-preserved
loop-index-preserved c =
    let old : List (State Bits) = c.loop-index.states.items in
    let new : List (State Bits) = c.resolve_state.new.states.items in
    let step = c.in_ok-resolve_state.ensures in
    resolved_on (rules_of c.args.self.now.grammar.now) c.args.self.now.start c.args.self.now.max_copies c.args.found.now c.args.list.now c.args.first c.args.states.now.items c.loop-index.index old new c.loop-index.invariant step.step (was_resolved c.in_ok-resolve_state.field-0 _ _ c.if-not-branch.false step.resolved)

pub returns-then-not-branch-clause-copies : goal.returns-then-not-branch-clause-copies
returns-then-not-branch-clause-copies c =
    let old : List (State Bits) = c.loop-index.states.items in
    let new : List (State Bits) = c.resolve_state.new.states.items in
    let met = was_met c.in_ok-resolve_state.field-0 _ _ c.if-not-branch.true c.in_ok-resolve_state.ensures.resolved in
    (resolved_up_to (rules_of c.args.self.now.grammar.now) c.args.self.now.start c.args.self.now.max_copies c.args.found.now c.args.list.now c.args.first c.args.states.now.items c.loop-index.index old new c.loop-index.invariant met.1).stay

pub returns-then-not-branch-clause-resolved : goal.returns-then-not-branch-clause-resolved
returns-then-not-branch-clause-resolved c =
    let old : List (State Bits) = c.loop-index.states.items in
    let new : List (State Bits) = c.resolve_state.new.states.items in
    let met = was_met c.in_ok-resolve_state.field-0 _ _ c.if-not-branch.true c.in_ok-resolve_state.ensures.resolved in
    (resolved_up_to (rules_of c.args.self.now.grammar.now) c.args.self.now.start c.args.self.now.max_copies c.args.found.now c.args.list.now c.args.first c.args.states.now.items c.loop-index.index old new c.loop-index.invariant met.1).between

pub returns-clause-copies : goal.returns-clause-copies
returns-clause-copies c = c.loop-index.invariant.stay

pub returns-clause-resolved : goal.returns-clause-resolved
returns-clause-resolved c = c.loop-index.invariant.between
