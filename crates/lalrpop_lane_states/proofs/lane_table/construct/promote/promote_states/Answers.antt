use Rattle.std.proofs.Common.{[], ◌∷◌, ◌++◌, sym, subst, ap, ◌∙◌, append-nil, arith}
use Rattle.std.proofs.lemmas.List.{nil_from_length}
use Rattle.std.specs.List.{AllZip}
use Rattle.lalrpop_grammar.proofs.theory.lists.ListEnds.{AllZip-last}
use Rattle.lalrpop_lane_states.specs.Words.{IsPromoted}
use Rattle.lalrpop_states.proofs.theory.collapse.Merging.{taken}
use Rattle.lalrpop_lane_states.proofs.lane_table.construct.promote.promote_states.Goals as goal

pub loop-state-init : goal.loop-state-init
loop-state-init c = record { promoted = subst (AllZip (IsPromoted c.args.all.now) []) (sym c.new-promoted.ensures.items) tt; left = c.into_iter-state-iterator.ensures.into_iter_gives.0 }

pub loop-state-preserved : goal.loop-state-preserved
loop-state-preserved c =
    let h = c.loop-state.invariant in
    let P = IsPromoted c.args.all.now in
    record {
      promoted = subst (AllZip P (c.loop-state.yielded ++ c.in-Some.state ∷ [])) (sym c.in_ok-push.ensures.items) (AllZip-last P c.loop-state.yielded c.loop-state.promoted.items c.in-Some.state _ h.promoted c.in_ok-promote_state.ensures);
      left = taken _ _ c.loop-state.yielded _ c.in-Some.state h.left c.in-Some.ensures.steps.0;
    }

pub returns : goal.returns
returns c =
    let h = c.loop-state.invariant in
    let rest = nil_from_length c.loop-state.state-iterator.rest.items (let k = c.loop-state.state-iterator.rest.ok in let none = c.in-None.ensures.steps.0 in omega arith) in
    let all = sym (append-nil c.loop-state.yielded) ∙ ap (λ ys. c.loop-state.yielded ++ ys) (sym rest) ∙ h.left in
    subst (λ xs. AllZip (IsPromoted c.args.all.now) xs c.loop-state.promoted.items) all h.promoted
