use Rattle.table_pictures.specs.Nodes.{reduction_line}
use Rattle.lalrpop_collections.proofs.theory.lists.Pieces.{one_more}
use Rattle.table_pictures.proofs.nodes.push_reductions.Goals as goal

pub loop-reduction-preserved : goal.loop-reduction-preserved
loop-reduction-preserved c =
    one_more (reduction_line c.args.terminals.now) c.args.reductions.now c.loop-reduction.reduction-index c.reduction-item.result _ _ _ c.loop-reduction-test.true c.reduction-item.is c.loop-reduction.invariant c.in_ok-push_reduction.ensures
