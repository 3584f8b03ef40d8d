use Rattle.std.proofs.Common.{map}
use Rattle.lalrpop_base.specs.Words.{state_edges}
use Rattle.lalrpop_state_graph.specs.Words.{edge_from}
use Rattle.lalrpop_state_graph.proofs.theory.graphs.StateGraphs.{IsAdding}
use Rattle.lalrpop_state_graph.proofs.state_graph.StateGraph.add_state.Given as goal

abbrev pub invariant-loop-symbol : goal.invariant-loop-symbol
invariant-loop-symbol g l = IsAdding (map (edge_from l.source) l.symbol-iterator) (map (edge_from l.source) (state_edges l.state.shifts.entries l.state.gotos.entries)) l.initial.self l.self
