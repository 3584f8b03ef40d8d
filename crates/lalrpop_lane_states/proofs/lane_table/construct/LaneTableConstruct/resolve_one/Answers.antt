use Rattle.std.proofs.Common.{◌∙◌, List, length, refl, sym, subst, arith, ap}
use Rattle.std.specs.Prelude.{slice_get, vec_len}
use Rattle.lalrpop_base.specs.Words.{Bits, AreCoherent, rules_of, productions}
use Rattle.lalrpop_lanes.specs.Words.{AreAmong}
use Rattle.lalrpop_lane_states.proofs.Types.{State}
use Rattle.lalrpop_lane_states.specs.Words.{AreTraced}
use Rattle.lalrpop_state_graph.specs.Words.{edges, IsGraphOf}
use Rattle.lalrpop_lanes.specs.Words.{HaveOwnItems}
use Rattle.lalrpop_construction.specs.Words.{places_in}
use Rattle.lr1_theory.proofs.theory.states.CheckStates.{some_of}
use Rattle.lalrpop_lane_states.proofs.theory.lane_states.LaneAnswers.{was_met, was_resolved}
use Rattle.lalrpop_lane_states.proofs.theory.lanes.LaneAsked.{among_asked}
use Rattle.lalrpop_states.proofs.theory.collapse.Merging.{set_back}
use Rattle.lalrpop_lane_states.proofs.theory.lane_states.Lr0Copies.{asked_own, copied_coherent, copied_own}
use Rattle.lalrpop_collections.proofs.theory.lists.Places.{same_some, slice_get_at}
use Rattle.lalrpop_lane_states.proofs.theory.lane_states.ResolvedCopies.{overlap_if, tried_taken}
use Rattle.lalrpop_lane_states.proofs.theory.lane_states.Resolving.{copied_answers, resolving_copies, resolving_taken, some_asked}
use Rattle.lalrpop_lane_states.proofs.lane_table.construct.LaneTableConstruct.resolve_one.Goals as goal

pub build_lane_table-requires-clause-coherent : goal.build_lane_table-requires-clause-coherent
build_lane_table-requires-clause-coherent c =
    let h = c.requires.resolving in
    let r = h.1 in
    subst AreCoherent (sym c.deref.ensures.value) (copied_coherent (rules_of c.args.self.now.grammar.now) c.args.self.now.start h.0 r.made c.args.copying.originals.items c.args.copying.states.items r.each)

pub build_lane_table-requires-clause-own : goal.build_lane_table-requires-clause-own
build_lane_table-requires-clause-own c =
    let h = c.requires.resolving in
    let r = h.1 in
    subst (λ (xs : List (State Bits)). HaveOwnItems (productions c.args.self.now.grammar.now) xs) (sym c.deref.ensures.value) (copied_own (rules_of c.args.self.now.grammar.now) c.args.self.now.start h.0 r.made c.args.copying.originals.items c.args.copying.states.items r.each)

pub build_lane_table-requires-clause-reduces : goal.build_lane_table-requires-clause-reduces
build_lane_table-requires-clause-reduces c =
    let h = c.requires.resolving in
    let r = h.1 in
    let states : List (State Bits) = c.args.copying.states.items in
    asked_own (rules_of c.args.self.now.grammar.now) c.args.self.now.start h.0 r.made c.args.copying.originals.items states r.each c.args.index c.index-state.result.now c.in_ok-actions.actions.keys
    (slice_get_at states c.args.index c.index-state.result.now c.requires.listed c.index-state.ensures) c.in_ok-actions.ensures.actions

pub attempt_lalr-requires-clause-among : goal.attempt_lalr-requires-clause-among
attempt_lalr-requires-clause-among c =
    let states : List (State Bits) = c.args.copying.states.items in
    let at_seen = slice_get_at states c.args.index c.index-state.result.now c.requires.listed c.index-state.ensures in
    let at = slice_get_at states c.args.index c.index_mut.result.now c.requires.listed c.index_mut.ensures.value in
    subst (AreAmong c.in_ok-actions.actions.keys) (same_some c.index-state.result.now c.index_mut.result.now (sym at_seen ∙ at)) (among_asked c.args.self.now.grammar.now.terminals c.index-state.result.now c.in_ok-actions.actions.keys c.in_ok-actions.ensures.actions)

pub returns-then-branch-clause-resolving : goal.returns-then-branch-clause-resolving
returns-then-branch-clause-resolving c =
    let states : List (State Bits) = c.args.copying.states.items in
    let at = slice_get_at states c.args.index c.index_mut.result.now c.requires.listed c.index_mut.ensures.value in
    let told = was_resolved c.in_ok-attempt_lalr.field-0 _ _ c.if-branch.true c.in_ok-attempt_lalr.ensures.attempted in
    λ handed r. resolving_taken (rules_of c.args.self.now.grammar.now) c.args.self.now.start c.args.self.now.max_copies handed c.args.copying _ r refl refl refl c.args.index c.index_mut.result.now c.attempt_lalr.new.state at refl c.in_ok-actions.actions.keys c.in_ok-table.table told

pub merge_along-requires-clause-coherent : goal.merge_along-requires-clause-coherent
merge_along-requires-clause-coherent c =
    let h = c.requires.resolving in
    let r = h.1 in
    let states : List (State Bits) = c.args.copying.states.items in
    let at = slice_get_at states c.args.index c.index_mut.result.now c.requires.listed c.index_mut.ensures.value in
    let told = was_met c.in_ok-attempt_lalr.field-0 _ _ c.if-branch.false c.in_ok-attempt_lalr.ensures.attempted in
    subst AreCoherent (sym (set_back states c.args.index c.index_mut.result.now c.attempt_lalr.new.state at told.1)) (copied_coherent (rules_of c.args.self.now.grammar.now) c.args.self.now.start h.0 r.made c.args.copying.originals.items states r.each)

pub merge_along-requires-clause-named : goal.merge_along-requires-clause-named
merge_along-requires-clause-named c =
    let states : List (State Bits) = c.args.copying.states.items in
    let at = slice_get_at states c.args.index c.index_mut.result.now c.requires.listed c.index_mut.ensures.value in
    let told = was_met c.in_ok-attempt_lalr.field-0 _ _ c.if-branch.false c.in_ok-attempt_lalr.ensures.attempted in
    ((c.requires.resolving.1).each).counted ∙ sym (ap (λ (xs : List (State Bits)). length xs) (set_back states c.args.index c.index_mut.result.now c.attempt_lalr.new.state at told.1))

pub merge_along-requires-clause-graph : goal.merge_along-requires-clause-graph
merge_along-requires-clause-graph c =
    let states : List (State Bits) = c.args.copying.states.items in
    let at = slice_get_at states c.args.index c.index_mut.result.now c.requires.listed c.index_mut.ensures.value in
    let told = was_met c.in_ok-attempt_lalr.field-0 _ _ c.if-branch.false c.in_ok-attempt_lalr.ensures.attempted in
    subst (λ (xs : List (State Bits)). IsGraphOf (edges xs) c.args.copying.graph) (sym (set_back states c.args.index c.index_mut.result.now c.attempt_lalr.new.state at told.1)) (c.requires.resolving.1).graph

pub merge_along-requires-clause-row : goal.merge_along-requires-clause-row
merge_along-requires-clause-row c =
    let some = some_of (vec_len c.index-state.result.now.reductions) (sym c.is_empty.ensures ∙ c.if-is_empty.false) in
    c.in_ok-table.ensures.row (some_asked c.args.self.now.grammar.now.terminals c.index-state.result.now c.in_ok-actions.actions.keys c.in_ok-actions.ensures.actions (let k = c.index-state.result.now.reductions.ok in omega arith))

pub merge_along-requires-clause-among : goal.merge_along-requires-clause-among
merge_along-requires-clause-among c before there =
    let states : List (State Bits) = c.args.copying.states.items in
    let at_seen = slice_get_at states c.args.index c.index-state.result.now c.requires.listed c.index-state.ensures in
    let at = slice_get_at states c.args.index c.index_mut.result.now c.requires.listed c.index_mut.ensures.value in
    let told = was_met c.in_ok-attempt_lalr.field-0 _ _ c.if-branch.false c.in_ok-attempt_lalr.ensures.attempted in
    let back = set_back states c.args.index c.index_mut.result.now c.attempt_lalr.new.state at told.1 in
    subst (AreAmong c.in_ok-actions.actions.keys) (same_some c.index-state.result.now before (sym at_seen ∙ ap (λ (xs : List (State Bits)). slice_get xs c.args.index) (sym back) ∙ there)) (among_asked c.args.self.now.grammar.now.terminals c.index-state.result.now c.in_ok-actions.actions.keys c.in_ok-actions.ensures.actions)

pub returns-clause-resolving : goal.returns-clause-resolving
returns-clause-resolving c =
    let g = rules_of c.args.self.now.grammar.now in
    let start = c.args.self.now.start in
    let copies = c.args.self.now.max_copies in
    let states : List (State Bits) = c.args.copying.states.items in
    let at = slice_get_at states c.args.index c.index_mut.result.now c.requires.listed c.index_mut.ensures.value in
    let told = was_met c.in_ok-attempt_lalr.field-0 _ _ c.if-branch.false c.in_ok-attempt_lalr.ensures.attempted in
    let back = set_back states c.args.index c.index_mut.result.now c.attempt_lalr.new.state at told.1 in
    copied_answers g start copies c.args.copying _ refl refl refl back c.merge_along.result c.merge_along.ensures.copied

pub returns-then-branch-clause-tried : goal.returns-then-branch-clause-tried
returns-then-branch-clause-tried c =
    let states : List (State Bits) = c.args.copying.states.items in
    let at = slice_get_at states c.args.index c.index_mut.result.now c.requires.listed c.index_mut.ensures.value in
    let told = was_resolved c.in_ok-attempt_lalr.field-0 _ _ c.if-branch.true c.in_ok-attempt_lalr.ensures.attempted in
    tried_taken c.args.index states _ c.index_mut.result.now c.attempt_lalr.new.state at refl c.in_ok-actions.actions.keys c.in_ok-table.table told

pub returns-clause-overlap : goal.returns-clause-overlap
returns-clause-overlap c =
    let g = rules_of c.args.self.now.grammar.now in
    let start = c.args.self.now.start in
    let copies = c.args.self.now.max_copies in
    let states : List (State Bits) = c.args.copying.states.items in
    let told = was_met c.in_ok-attempt_lalr.field-0 _ _ c.if-branch.false c.in_ok-attempt_lalr.ensures.attempted in
    overlap_if g start copies c.args.index (record {
      states = states;
      made = resolving_copies g start copies c.requires.resolving.0 c.args.copying c.requires.resolving.1;
      state = c.index-state.result.now;
      there = slice_get_at states c.args.index c.index-state.result.now c.requires.listed c.index-state.ensures;
      actions = c.in_ok-actions.actions.keys;
      asked = c.in_ok-actions.ensures.actions;
      table = c.in_ok-table.table;
      traced = subst (λ (xs : List (State Bits)). AreTraced g start (places_in xs) c.args.index c.in_ok-actions.actions.keys c.in_ok-table.table) c.deref.ensures.value c.in_ok-table.ensures.traced;
      overlap = told.0;
    }) c.merge_along.result
