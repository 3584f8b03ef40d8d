use Rattle.std.proofs.Common.{subst}
use Rattle.std.proofs.lemmas.List.{take_all}
use Rattle.std.specs.List.{flat_map}
use Rattle.table_data.specs.Naming.{state_sets}
use Rattle.table_data.specs.Sets.{AddsSets}
use Rattle.table_data.proofs.NamedSets.{adds_next, adds_none}
use Rattle.table_data.proofs.naming.add_states.Goals as goal

pub loop-state-init : goal.loop-state-init
loop-state-init c = adds_none c.args.sets.now

pub loop-state-preserved : goal.loop-state-preserved
loop-state-preserved c = adds_next (state_sets c.args.all.now) c.args.states.now c.loop-state.state-index c.state-item.result _ _ _ c.loop-state-test.true c.state-item.is c.loop-state.invariant c.in_ok-add_state.ensures

pub returns : goal.returns
returns c = subst (λ xs. AddsSets (flat_map (state_sets c.args.all.now) xs) c.args.sets.now c.loop-state.sets) (take_all c.loop-state.state-index c.args.states.now c.loop-state-test.false) c.loop-state.invariant
