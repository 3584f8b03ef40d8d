use Rattle.std.proofs.Common.{List, arith, length, sym, subst}
use Rattle.lalrpop_base.specs.Words.{Bits, AreClosed, AreCoherent, productions, rules_of}
use Rattle.lalrpop_lane_states.proofs.Types.{State}
use Rattle.lalrpop_follow_sets.specs.follow_sets.FollowNodes.{AreAllReached, AreItemsOfGrammar}
use Rattle.lalrpop_construction.specs.Words.{places_in}
use Rattle.lalrpop_lane_states.proofs.theory.lane_states.CopiedShape.{lane_copies}
use Rattle.lalrpop_lane_states.proofs.theory.lane_states.LaneFound.{found_at, lane_closed, lane_own, lane_reached}
use Rattle.lalrpop_lane_states.proofs.theory.lane_states.FoundPlaces.{numbered_on}
use Rattle.lalrpop_lane_states.proofs.theory.lane_states.LaneLoop.{lane_states_on, resolved_more, step_places}
use Rattle.lalrpop_lane_states.proofs.theory.lane_states.LaneShape.{lane_shape}
use Rattle.lalrpop_collections.proofs.theory.lists.Places.{slice_get_at}
use Rattle.lalrpop_lane_states.proofs.theory.lane_states.LaneAnswers.{lane_tables, all_done, was_resolved, were_met}
use Rattle.lalrpop_lane_states.proofs.lane_table.construct.LaneTableConstruct.resolve_states.Goals as goal

-- ---- the pass
pub new-requires-clause-coherent : goal.new-requires-clause-coherent
new-requires-clause-coherent c = subst (λ (xs : List (State Bits)). AreCoherent xs) (sym c.deref.ensures.value) (lane_shape (rules_of c.args.self.now.grammar.now) c.args.self.now.start c.args.states.now.items c.requires.lanes).coherent

pub new-requires-clause-closed : goal.new-requires-clause-closed
new-requires-clause-closed c = subst (λ (xs : List (State Bits)). AreClosed (productions c.args.self.now.grammar.now) c.args.self.now.start (places_in xs)) (sym c.deref.ensures.value) (lane_closed (rules_of c.args.self.now.grammar.now) c.args.self.now.start c.args.states.now.items c.requires.lanes)

pub new-requires-clause-reached : goal.new-requires-clause-reached
new-requires-clause-reached c = subst (λ (xs : List (State Bits)). AreAllReached (places_in xs) (length xs)) (sym c.deref.ensures.value) (lane_reached (rules_of c.args.self.now.grammar.now) c.args.self.now.start c.args.states.now.items c.requires.lanes)

pub new-requires-clause-own : goal.new-requires-clause-own
new-requires-clause-own c = subst (λ (xs : List (State Bits)). AreItemsOfGrammar (productions c.args.self.now.grammar.now) (places_in xs)) (sym c.deref.ensures.value) (lane_own (rules_of c.args.self.now.grammar.now) c.args.self.now.start c.args.states.now.items c.requires.lanes)

-- ---- the loop
pub resolve_state-requires-clause-copies : goal.resolve_state-requires-clause-copies
resolve_state-requires-clause-copies c = lane_copies (rules_of c.args.self.now.grammar.now) c.args.self.now.start c.args.self.now.max_copies c.loop-index.states.items c.loop-index.invariant.lanes

pub resolve_state-requires-clause-found : goal.resolve_state-requires-clause-found
resolve_state-requires-clause-found c =
    let h = c.loop-index.invariant in
    let states : List (State Bits) = c.loop-index.states.items in
    let counted = h.numbered.counted in
    let all = h.counted in
    let at = slice_get_at c.args.numbered.now c.loop-index.index c.index-numbered-index.result (omega arith) c.index-numbered-index.is in
    found_at (rules_of c.args.self.now.grammar.now) c.args.self.now.start states h.lanes c.args.numbers.now c.requires.numbers c.in_ok-found.found c.args.numbered.now h.finds h.numbered c.loop-index.index c.index-numbered-index.result at

pub returns-then-not-branch-clause-lanes : goal.returns-then-not-branch-clause-lanes
returns-then-not-branch-clause-lanes c =
    let old : List (State Bits) = c.loop-index.states.items in
    let new : List (State Bits) = c.resolve_state.new.states.items in
    lane_states_on (rules_of c.args.self.now.grammar.now) c.args.self.now.start c.loop-index.index old new c.in_ok-resolve_state.ensures.step c.loop-index.invariant.lanes

pub returns-then-not-branch-clause-resolved : goal.returns-then-not-branch-clause-resolved
returns-then-not-branch-clause-resolved c =
    let old : List (State Bits) = c.loop-index.states.items in
    let new : List (State Bits) = c.resolve_state.new.states.items in
    were_met (rules_of c.args.self.now.grammar.now) c.args.self.now.start c.args.numbers.now c.in_ok-found.found c.args.numbered.now c.len-count.result c.loop-index.index old new c.loop-index.invariant c.in_ok-resolve_state.ensures.step c.in_ok-resolve_state.field-0 _ c.if-not-branch.true c.in_ok-resolve_state.ensures.resolved

pub returns-then-not-branch-clause-numbered : goal.returns-then-not-branch-clause-numbered
returns-then-not-branch-clause-numbered c =
    let old : List (State Bits) = c.loop-index.states.items in
    let new : List (State Bits) = c.resolve_state.new.states.items in
    numbered_on c.args.numbers.now old new (step_places c.loop-index.index old new c.in_ok-resolve_state.ensures.step) c.args.numbered.now c.loop-index.invariant.numbered

pub loop-index-preserved : goal.loop-index-preserved
loop-index-preserved c =
    let old : List (State Bits) = c.loop-index.states.items in
    let new : List (State Bits) = c.resolve_state.new.states.items in
    let step = c.in_ok-resolve_state.ensures in
    resolved_more (rules_of c.args.self.now.grammar.now) c.args.self.now.start c.args.numbers.now c.in_ok-found.found c.args.numbered.now c.len-count.result c.loop-index.index old new c.loop-index.invariant step.step (was_resolved c.in_ok-resolve_state.field-0 _ _ c.if-not-branch.false step.resolved)

pub returns-clause-resolved : goal.returns-clause-resolved
returns-clause-resolved c =
    let g = c.args.self.now.grammar.now in
    let start = c.args.self.now.start in
    let states : List (State Bits) = c.loop-index.states.items in
    let h = c.loop-index.invariant in
    lane_tables g start c.requires.ready.well_formed c.all-terminals.ensures.distinct states h.lanes (all_done (rules_of g) start _ _ _ c.len-count.result c.loop-index.index states c.loop-index-test.false h)
