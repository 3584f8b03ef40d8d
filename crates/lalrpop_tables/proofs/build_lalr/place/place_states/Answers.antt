use Rattle.std.proofs.Common.{List, [], ◌++◌, refl, sym, subst, ap, ◌∙◌, append-nil, arith}
use Rattle.std.proofs.lemmas.List.{nil_from_length}
use Rattle.lalrpop_base.specs.Words.{Bits}
use Rattle.lalrpop_tables.proofs.Types.{State}
use Rattle.lalrpop_states.specs.collapse.Merging.{ArePlaced, none}
use Rattle.lalrpop_states.proofs.theory.collapse.Merging.{taken}
use Rattle.lalrpop_tables.proofs.build_lalr.place.place_states.Goals as goal

pub loop-state-init : goal.loop-state-init
loop-state-init c = record { placed = subst (ArePlaced []) (sym c.new-merged.ensures.items) none; left = c.into_iter-state-iterator.ensures.into_iter_gives.0 }

pub loop-state-preserved : goal.loop-state-preserved
loop-state-preserved c =
    let h = c.loop-state.invariant in
    record {
      placed = c.in_ok-place_state.ensures _ _ h.placed refl;
      left = taken _ _ c.loop-state.yielded _ c.in-Some.state h.left c.in-Some.ensures.steps.0;
    }

pub returns : goal.returns
returns c =
    let h = c.loop-state.invariant in
    let rest = nil_from_length c.loop-state.state-iterator.rest.items (let k = c.loop-state.state-iterator.rest.ok in let none = c.in-None.ensures.steps.0 in omega arith) in
    let all = sym (append-nil c.loop-state.yielded) ∙ ap (λ ys. c.loop-state.yielded ++ ys) (sym rest) ∙ h.left in
    subst (λ (xs : List (State Bits)). ArePlaced xs c.loop-state.merged.items) all h.placed
