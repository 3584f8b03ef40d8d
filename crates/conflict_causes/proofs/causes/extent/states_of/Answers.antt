use Rattle.std.proofs.Common.{List, ℕ, get_or, subst}
use Rattle.std.proofs.lemmas.List.{take_all}
use Rattle.conflict_causes.specs.Extents.{AreCauseStates}
use Rattle.conflict_causes.proofs.Extents.{no_states, same_read, states_more}
use Rattle.conflict_causes.proofs.causes.extent.states_of.Goals as goal

pub loop-number-init : goal.loop-number-init
loop-number-init c = no_states c.args.conflicts.now c.new-set.result.keys c.new-set.ensures.empty

pub loop-number-preserved : goal.loop-number-preserved
loop-number-preserved c =
    let numbers = c.args.numbers.now in
    let i = c.loop-number.number-index in
    states_more c.args.conflicts.now numbers i (get_or numbers i 0) c.loop-number.set.keys c.add_state.new.set.keys c.loop-number-test.true (same_read numbers i c.loop-number-test.true) c.loop-number.invariant c.in_ok-add_state.ensures

pub returns : goal.returns
returns c = subst (λ (xs : List ℕ). AreCauseStates c.args.conflicts.now xs c.loop-number.set.keys) (take_all c.loop-number.number-index c.args.numbers.now c.loop-number-test.false) c.loop-number.invariant
