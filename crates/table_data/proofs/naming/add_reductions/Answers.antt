use Rattle.std.proofs.Common.{subst}
use Rattle.std.proofs.lemmas.List.{take_all}
use Rattle.std.specs.List.{flat_map}
use Rattle.table_data.specs.Naming.{reduction_sets}
use Rattle.table_data.specs.Sets.{AddsSets}
use Rattle.table_data.proofs.NamedSets.{adds_next, adds_none}
use Rattle.table_data.proofs.naming.add_reductions.Goals as goal

pub loop-reduction-init : goal.loop-reduction-init
loop-reduction-init c = adds_none c.args.sets.now

pub loop-reduction-preserved : goal.loop-reduction-preserved
loop-reduction-preserved c = adds_next reduction_sets c.args.reductions.now c.loop-reduction.reduction-index c.reduction-item.result _ _ _ c.loop-reduction-test.true c.reduction-item.is c.loop-reduction.invariant c.in_ok-add.ensures

pub returns : goal.returns
returns c = subst (λ xs. AddsSets (flat_map reduction_sets xs) c.args.sets.now c.loop-reduction.sets) (take_all c.loop-reduction.reduction-index c.args.reductions.now c.loop-reduction-test.false) c.loop-reduction.invariant
