use Rattle.std.proofs.Common.{List, arith, subst}
use Rattle.std.proofs.lemmas.List.{take_all}
use Rattle.lalrpop_state_graph.proofs.Types.{State}
use Rattle.lalrpop_state_graph.specs.Words.{edges, IsGraphOf}
use Rattle.lalrpop_state_graph.proofs.theory.graphs.StateGraphs.{edges_more, graph_on}
use Rattle.lalrpop_state_graph.proofs.state_graph.StateGraph.add_states.Goals as goal

pub loop-number-preserved : goal.loop-number-preserved
loop-number-preserved g c = λ graph.
    rw (edges_more c.args.states.now c.loop-number.number c.index-states-number.result (omega arith) c.index-states-number.is)
    (graph_on _ _ _ _ (c.loop-number.invariant graph) c.in_ok-add_state.ensures)

pub returns : goal.returns
returns g c = λ graph. subst (λ (xs : List (State g.row.L.Denot)). IsGraphOf (edges xs) c.loop-number.self) (take_all c.loop-number.number c.args.states.now (omega arith)) (c.loop-number.invariant graph)
