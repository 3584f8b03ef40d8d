use Rattle.table_pictures.specs.Graphs.{shown_node}
use Rattle.lalrpop_collections.proofs.theory.lists.Pieces.{one_more}
use Rattle.table_pictures.proofs.dot.push_nodes.Goals as goal

pub loop-state-preserved : goal.loop-state-preserved
loop-state-preserved c =
    one_more (shown_node c.args.start.now c.args.terminals.now c.args.states.now c.args.conflicts.now c.args.shown.now) c.args.states.now c.loop-state.state-index c.state-item.result _ _ _ c.loop-state-test.true c.state-item.is c.loop-state.invariant c.in_ok-push_shown_node.ensures
