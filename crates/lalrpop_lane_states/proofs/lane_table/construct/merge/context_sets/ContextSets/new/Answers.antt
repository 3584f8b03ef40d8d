use Rattle.std.proofs.Common.{◌∙◌, ◌∷◌, ◌++◌, [], ap, sym, subst, append-nil, append_assoc}
use Rattle.lalrpop_lanes.specs.Words.{Rows}
use Rattle.lalrpop_lane_states.specs.Words.{OwnSets}
use Rattle.lalrpop_lane_states.proofs.theory.merges.StateSets.{own_none, own_more}
use Rattle.lalrpop_lane_states.proofs.lane_table.construct.merge.context_sets.ContextSets.new.Goals as goal

pub loop-state-init : goal.loop-state-init
loop-state-init c = record { own = own_none (record { state_sets = c.new.result; contexts = c.new-2.result }) c.new-2.ensures.items; left = c.into_iter-state-iterator.ensures.into_iter_gives.0 }

pub loop-state-preserved : goal.loop-state-preserved
loop-state-preserved c =
    let done : Rows = c.loop-state.yielded in
    let left : Rows = c.next.new.self in
    record {
      own = own_more done c.in-Some.state c.in-Some.row c.loop-state.sets c.new_state.new.self c.loop-state.invariant.own c.in_ok-new_state.ensures.made c.in_ok-new_state.ensures.adds;
      left = append_assoc done ((c.in-Some.state, c.in-Some.row) ∷ []) left ∙ ap (λ (es : Rows). done ++ es) (sym c.in-Some.ensures.steps) ∙ c.loop-state.invariant.left;
    }

pub returns : goal.returns
returns c =
    let done : Rows = c.loop-state.yielded in
    subst (λ (es : Rows). OwnSets es c.loop-state.sets) (sym (append-nil done) ∙ ap (λ (es : Rows). done ++ es) (sym c.in-None.ensures.steps.0) ∙ c.loop-state.invariant.left) c.loop-state.invariant.own
