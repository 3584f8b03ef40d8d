use Rattle.std.proofs.Common.{List, [], ◌∷◌, ◌++◌, sym, subst, ap, ◌∙◌, append-nil, arith}
use Rattle.std.proofs.lemmas.List.{nil_from_length}
use Rattle.lalrpop_base.specs.Words.{Bits, AreMoved, and_one, number_in}
use Rattle.lalrpop_tables.proofs.Types.{State}
use Rattle.lr1_theory.specs.renumbering.Moved.{no_more}
use Rattle.lalrpop_states.proofs.theory.collapse.Merging.{taken}
use Rattle.lr1_theory.proofs.theory.renumbering.Moved.{Moved-append}
use Rattle.lalrpop_tables.proofs.build_lalr.place.number_states.Goals as goal

pub loop-state-init : goal.loop-state-init
loop-state-init c =
    let new = number_in c.args.numbers.now in
    record { moved = subst (AreMoved new _) (sym c.new-numbered.ensures.items) no_more; left = c.into_iter-state-iterator.ensures.into_iter_gives.0 }

pub loop-state-preserved : goal.loop-state-preserved
loop-state-preserved c =
    let new = number_in c.args.numbers.now in
    let h = c.loop-state.invariant in
    record {
      moved = subst (AreMoved new (c.loop-state.yielded ++ c.in-Some.state ∷ [])) (sym {A = List (State Bits)} c.in_ok-push.ensures.items) (Moved-append new h.moved (and_one c.renumber_state.ensures no_more));
      left = taken _ _ c.loop-state.yielded _ c.in-Some.state h.left c.in-Some.ensures.steps.0;
    }

pub returns : goal.returns
returns c =
    let new = number_in c.args.numbers.now in
    let h = c.loop-state.invariant in
    let rest = nil_from_length c.loop-state.state-iterator.rest.items (let k = c.loop-state.state-iterator.rest.ok in let none = c.in-None.ensures.steps.0 in omega arith) in
    let all = sym (append-nil c.loop-state.yielded) ∙ ap (λ ys. c.loop-state.yielded ++ ys) (sym rest) ∙ h.left in
    subst (λ (xs : List (State Bits)). AreMoved new xs c.loop-state.numbered.items) all h.moved
