use Rattle.std.proofs.Common.{List, length, refl, sym, ◌∙◌, ap, arith}
use Rattle.lalrpop_base.specs.Words.{Bits, rules_of}
use Rattle.lalrpop_lane_states.proofs.Types.{State}
use Rattle.lalrpop_lane_states.proofs.theory.lane_states.FoundResolving.{found_meet, found_step, found_written, sets_counted}
use Rattle.lalrpop_lane_states.proofs.theory.lane_states.LaneAnswers.{was_met, was_resolved}
use Rattle.lalrpop_lane_states.proofs.theory.lane_states.LaneLoop.{idle_step}
use Rattle.lalrpop_collections.proofs.theory.lists.Places.{filled, slice_get_at}
use Rattle.lalrpop_lane_states.proofs.lane_table.construct.LaneTableConstruct.resolve_state.Goals as goal

pub returns-then-is_empty-clause-step : goal.returns-then-is_empty-clause-step
returns-then-is_empty-clause-step c =
    let states : List (State Bits) = c.args.states.now.items in
    let state = filled states c.args.index c.requires.listed in
    idle_step c.args.index states state.0 state.1

pub unions-requires-clause-within : goal.unions-requires-clause-within
unions-requires-clause-within c k m there = c.requires.found.finds.within c.args.index k m there

pub shifted-requires : goal.shifted-requires
shifted-requires c x target there =
    let f = c.requires.found in
    let edge = rw c.deref-2.ensures.value at there in
    let l = f.numbered.named x target edge in
    let t = f.finds.tokens.counted in
    omega arith

pub returns-then-branch-clause-step : goal.returns-then-branch-clause-step
returns-then-branch-clause-step c =
    let states : List (State Bits) = c.args.states.now.items in
    let state = filled states c.args.index c.requires.listed in
    idle_step c.args.index states state.0 state.1

pub returns-then-branch-clause-resolved : goal.returns-then-branch-clause-resolved
returns-then-branch-clause-resolved c =
    let states : List (State Bits) = c.args.states.now.items in
    let state = filled states c.args.index c.requires.listed in
    let unions = rw c.deref.ensures.value at c.in_ok-sets.ensures in
    let tokens = rw c.deref-2.ensures.value at c.in_ok-shifted.ensures in
    let share = rw c.deref-3.ensures.value at (was_resolved c.in_ok-share_token.field-0 _ _ c.if-branch.true c.in_ok-share_token.ensures) in (
      found_meet (rules_of c.args.self.now.grammar.now) c.args.self.now.start c.args.self.now.max_copies states c.requires.copies c.args.index c.args.found.now c.args.numbered.now c.requires.found state.0 state.1
          c.in_ok-sets.sets.items unions c.in_ok-shifted.shifted tokens share,
      refl,
    )

pub put_sets-requires : goal.put_sets-requires
put_sets-requires c =
    let states : List (State Bits) = c.args.states.now.items in
    let state = c.index_mut-state.result.now in
    let at = slice_get_at states c.args.index state c.requires.listed c.index_mut-state.ensures.value in
    let unions = rw c.deref.ensures.value at c.in_ok-sets.ensures in
    sets_counted (rules_of c.args.self.now.grammar.now) c.args.self.now.start c.args.self.now.max_copies states c.requires.copies c.args.index c.args.found.now c.args.numbered.now c.requires.found state at
    c.in_ok-sets.sets.items unions ∙ ap length (sym c.deref-4.ensures.value)

pub returns-clause-step : goal.returns-clause-step
returns-clause-step c =
    let states : List (State Bits) = c.args.states.now.items in
    let state = c.index_mut-state.result.now in
    let at = slice_get_at states c.args.index state c.requires.listed c.index_mut-state.ensures.value in
    let unions = rw c.deref.ensures.value at c.in_ok-sets.ensures in
    let took = rw c.deref-4.ensures.value at c.in_ok-reductions.ensures in
    found_step (rules_of c.args.self.now.grammar.now) c.args.self.now.start c.args.self.now.max_copies states c.requires.copies c.args.index c.args.found.now c.args.numbered.now c.requires.found state at
    c.in_ok-sets.sets.items unions _ refl refl refl refl took

pub returns-clause-resolved : goal.returns-clause-resolved
returns-clause-resolved c =
    let states : List (State Bits) = c.args.states.now.items in
    let state = c.index_mut-state.result.now in
    let at = slice_get_at states c.args.index state c.requires.listed c.index_mut-state.ensures.value in
    let unions = rw c.deref.ensures.value at c.in_ok-sets.ensures in
    let tokens = rw c.deref-2.ensures.value at c.in_ok-shifted.ensures in
    let none = rw c.deref-3.ensures.value at (was_met c.in_ok-share_token.field-0 _ _ c.if-branch.false c.in_ok-share_token.ensures) in
    let took = rw c.deref-4.ensures.value at c.in_ok-reductions.ensures in
    found_written (rules_of c.args.self.now.grammar.now) c.args.self.now.start c.args.self.now.max_copies states c.requires.copies c.args.index c.args.found.now c.args.numbered.now c.requires.found state at
    c.in_ok-sets.sets.items unions c.in_ok-shifted.shifted tokens none _ refl took
