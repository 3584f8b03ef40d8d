use Rattle.std.proofs.Common.{List, ◌++◌, sym, subst, ap, ◌∙◌, append-nil, arith}
use Rattle.lalrpop_base.specs.Words.{Bits, AreMoved, fails, parted, stands_first, number_in}
use Rattle.lalrpop_state_graph.proofs.Types.{State}
use Rattle.lr1_theory.specs.renumbering.Moved.{no_more}
use Rattle.std.proofs.lemmas.List.{nil_from_length}
use Rattle.lalrpop_states.proofs.theory.collapse.Merging.{taken}
use Rattle.lr1_theory.proofs.theory.renumbering.Moved.{Moved-append, Moved-grows}
use Rattle.lalrpop_state_graph.proofs.renumber.move_states.Goals as goal

pub loop-state-init : goal.loop-state-init
loop-state-init c =
    let new = number_in c.args.numbers.now in
    record { front = subst (AreMoved new _) (sym c.new-front.ensures.items) no_more; back = subst (AreMoved new _) (sym c.new-back.ensures.items) no_more; left = c.into_iter-state-iterator.ensures.into_iter_gives.0 }

pub loop-state-preserved : goal.loop-state-preserved
loop-state-preserved c =
    let new = number_in c.args.numbers.now in
    let h = c.loop-state.invariant in
    record {
      front = Moved-grows new stands_first c.in-Some.state c.loop-state.yielded _ _ h.front c.in_ok-push_state.ensures.front;
      back = Moved-grows new (fails stands_first) c.in-Some.state c.loop-state.yielded _ _ h.back c.in_ok-push_state.ensures.back;
      left = taken _ _ c.loop-state.yielded _ c.in-Some.state h.left c.in-Some.ensures.steps.0;
    }

pub returns : goal.returns
returns c =
    let new = number_in c.args.numbers.now in
    let h = c.loop-state.invariant in
    let rest = nil_from_length c.loop-state.state-iterator.rest.items (let k = c.loop-state.state-iterator.rest.ok in let none = c.in-None.ensures.steps.0 in omega arith) in
    let all = sym (append-nil c.loop-state.yielded) ∙ ap (λ ys. c.loop-state.yielded ++ ys) (sym rest) ∙ h.left in
    let moved = Moved-append new h.front h.back in
    let joined : List (State Bits) = c.loop-state.front.items ++ c.loop-state.back.items in
    let parts : AreMoved new (parted stands_first c.args.states.items) joined = subst (λ (xs : List (State Bits)). AreMoved new (parted stands_first xs) joined) all moved in
    subst (AreMoved new (parted stands_first c.args.states.items)) (sym c.in_ok-append.ensures.items) parts
