use Rattle.lalrpop_report.specs.Words.{reduction_lines}
use Rattle.lalrpop_collections.proofs.theory.lists.Pieces.{one_more}
use Rattle.lalrpop_report.proofs.report.states.push_each_reduction.Goals as goal

pub loop-reduction-preserved : goal.loop-reduction-preserved
loop-reduction-preserved g c =
    one_more (reduction_lines g.L.Lookahead.meaning c.args.lines.now) c.args.reductions.now c.loop-reduction.reduction-index c.reduction-item.result _ _ _ c.loop-reduction-test.true c.reduction-item.is c.loop-reduction.invariant c.in_ok-push_reduction.ensures
