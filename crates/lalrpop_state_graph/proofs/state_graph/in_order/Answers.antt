use Rattle.lalrpop_state_graph.proofs.theory.graphs.Stepping.{ordered_same, ordered_ascending}
use Rattle.lalrpop_state_graph.proofs.state_graph.in_order.Goals as goal

pub returns-clause-same : goal.returns-clause-same
returns-clause-same c = ordered_same _ _ _ c.sort_unstable.ensures.permutation c.dedup.ensures.filtered

pub returns-clause-ascending : goal.returns-clause-ascending
returns-clause-ascending c = ordered_ascending _ _ c.sort_unstable.ensures.sorted c.dedup.ensures.filtered
