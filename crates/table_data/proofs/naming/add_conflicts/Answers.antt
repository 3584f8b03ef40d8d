use Rattle.std.proofs.Common.{subst}
use Rattle.std.proofs.lemmas.List.{take_all}
use Rattle.std.specs.List.{flat_map}
use Rattle.table_data.specs.Naming.{conflict_sets}
use Rattle.table_data.specs.Sets.{AddsSets}
use Rattle.table_data.proofs.NamedSets.{adds_next, adds_none}
use Rattle.table_data.proofs.naming.add_conflicts.Goals as goal

pub loop-conflict-init : goal.loop-conflict-init
loop-conflict-init c = adds_none c.args.sets.now

pub loop-conflict-preserved : goal.loop-conflict-preserved
loop-conflict-preserved c = adds_next conflict_sets c.args.conflicts.now c.loop-conflict.conflict-index c.conflict-item.result _ _ _ c.loop-conflict-test.true c.conflict-item.is c.loop-conflict.invariant c.in_ok-add.ensures

pub returns : goal.returns
returns c = subst (λ xs. AddsSets (flat_map conflict_sets xs) c.args.sets.now c.loop-conflict.sets) (take_all c.loop-conflict.conflict-index c.args.conflicts.now c.loop-conflict-test.false) c.loop-conflict.invariant
