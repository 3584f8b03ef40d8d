use Rattle.std.proofs.Common.{◌≡◌, ◌∙◌, ap, subst, arith, length, Some, List}
use Rattle.std.specs.Prelude.{slice_get}
use Rattle.lalrpop_base.specs.Words.{Bits}
use Rattle.lalrpop_lanes.specs.Words.{IsApplied}
use Rattle.lalrpop_state_graph.specs.Words.{index}
use Rattle.lalrpop_lane_states.specs.Words.{HasOriginalRow}
use Rattle.lalrpop_lane_states.proofs.theory.merges.Merges.{on_ok, walked_context}
use Rattle.lalrpop_states.proofs.theory.collapse.Merging.{set_here, set_elsewhere, set_length}
use Rattle.lalrpop_collections.proofs.theory.lists.Places.{slice_get_at}
use Rattle.lalrpop_lane_states.proofs.lane_table.construct.merge.Merge.patch_target_start.Goals as goal

pub context_set-context_set-requires : goal.context_set-context_set-requires
context_set-context_set-requires c =
    let old = c.args.self.now in
    let e = c.requires.ready.copies.counted in
    let here : slice_get old.originals.items c.args.index ≡ Some c.index.result.now = slice_get_at old.originals.items c.args.index c.index.result.now (omega arith) c.index.ensures in
    let same : c.index.result.now ≡ old.inconsistent_state.0 = omega arith in
    c.requires.ready.sets c.args.index old.inconsistent_state.0 (here ∙ ap Some same) c.requires.ready.start

pub apply-requires-clause-counted : goal.apply-requires-clause-counted
apply-requires-clause-counted c =
    let old = c.args.self.now in
    let e = c.requires.ready.copies.counted in
    let here : slice_get old.originals.items c.args.index ≡ Some c.index.result.now = slice_get_at old.originals.items c.args.index c.index.result.now (omega arith) c.index.ensures in
    let same : c.index.result.now ≡ old.inconsistent_state.0 = omega arith in
    let w : HasOriginalRow old (index c.args.index) = record { original = old.inconsistent_state.0; there = here ∙ ap Some same; row = c.requires.ready.start } in
    ap length c.context_set-context_set.ensures ∙ (walked_context old c.requires.ready (index c.args.index) w).counted ∙ c.requires.counted

pub apply-requires-clause-among : goal.apply-requires-clause-among
apply-requires-clause-among c =
    let old = c.args.self.now in
    let e = c.requires.ready.copies.counted in
    let here : slice_get old.originals.items c.args.index ≡ Some c.index.result.now = slice_get_at old.originals.items c.args.index c.index.result.now (omega arith) c.index.ensures in
    let same : c.index.result.now ≡ old.inconsistent_state.0 = omega arith in
    c.requires.among c.args.index c.index_mut.result.now (here ∙ ap Some same) (slice_get_at old.states.items c.args.index c.index_mut.result.now c.requires.there c.index_mut.ensures.value)

pub returns-clause-taken : goal.returns-clause-taken
returns-clause-taken c =
    let old = c.args.self.now in
    let n = c.args.index in
    let e = c.requires.ready.copies.counted in
    let here : slice_get old.originals.items n ≡ Some c.index.result.now = slice_get_at old.originals.items n c.index.result.now (omega arith) c.index.ensures in
    let same : c.index.result.now ≡ old.inconsistent_state.0 = omega arith in
    let w : HasOriginalRow old (index n) = record { original = old.inconsistent_state.0; there = here ∙ ap Some same; row = c.requires.ready.start } in
    on_ok c.apply.result c.apply.ensures.applied (λ applied target. record {
      before = c.index_mut.result.now;
      after = c.apply.new.state;
      was = slice_get_at old.states.items n c.index_mut.result.now c.requires.there c.index_mut.ensures.value;
      is = set_here old.states.items n c.apply.new.state c.requires.there;
      counted = set_length old.states.items n c.apply.new.state;
      others = λ k other. set_elsewhere old.states.items n k c.apply.new.state other;
      disjoint = (walked_context old c.requires.ready (index n) w).disjoint;
      applied = subst (λ (columns : List Bits). IsApplied c.args.actions.now.keys columns c.index_mut.result.now c.apply.new.state) c.context_set-context_set.ensures applied;
    })

pub returns-clause-left : goal.returns-clause-left
returns-clause-left c =
    let old = c.args.self.now in
    let e = c.requires.ready.copies.counted in
    let here : slice_get old.originals.items c.args.index ≡ Some c.index.result.now = slice_get_at old.originals.items c.args.index c.index.result.now (omega arith) c.index.ensures in
    let same : c.index.result.now ≡ old.inconsistent_state.0 = omega arith in
    on_ok c.apply.result c.apply.ensures.applied (λ applied other. absurd (other (here ∙ ap Some same)))
