use Rattle.std.proofs.Common.{List, [], ◌∷◌, ◌++◌, sym, subst, ap, ◌∙◌, append-nil, arith}
use Rattle.std.specs.List.{AllZip}
use Rattle.std.proofs.lemmas.List.Elements.{AllZip-push}
use Rattle.std.proofs.lemmas.List.{nil_from_length}
use Rattle.lalrpop_base.specs.Words.{Bits, IsReduced}
use Rattle.lalrpop_tables.proofs.Types.{State}
use Rattle.lalrpop_states.proofs.theory.collapse.Merging.{taken}
use Rattle.lalrpop_tables.proofs.build_lalr.reductions.reduce_states.Goals as goal

pub loop-state-init : goal.loop-state-init
loop-state-init c = record { reduced = subst (AllZip IsReduced []) (sym c.new-reduced.ensures.items) tt; left = c.into_iter-state-iterator.ensures.into_iter_gives.0 }

pub loop-state-preserved : goal.loop-state-preserved
loop-state-preserved c =
    let h = c.loop-state.invariant in
    record {
      reduced = subst (AllZip IsReduced (c.loop-state.yielded ++ c.in-Some.state ∷ [])) (sym c.in_ok-push.ensures.items) (AllZip-push IsReduced c.loop-state.yielded c.loop-state.reduced.items c.in-Some.state _ h.reduced c.in_ok-reduce_state.ensures);
      left = taken _ _ c.loop-state.yielded _ c.in-Some.state h.left c.in-Some.ensures.steps.0;
    }

pub returns : goal.returns
returns c =
    let h = c.loop-state.invariant in
    let rest = nil_from_length c.loop-state.state-iterator.rest.items (let k = c.loop-state.state-iterator.rest.ok in let none = c.in-None.ensures.steps.0 in omega arith) in
    let all = sym (append-nil c.loop-state.yielded) ∙ ap (λ ys. c.loop-state.yielded ++ ys) (sym rest) ∙ h.left in
    subst (λ (xs : List (State Bits)). AllZip IsReduced xs c.loop-state.reduced.items) all h.reduced
