-- The neighbours that an iterator over a state graph has left. The last edge comes first.
use Rattle.std.specs.Prelude.{List, reverse}
use Rattle.lalrpop_states.specs.declared.lr1_core.state.StateIndex.{StateIndex}
use Rattle.lalrpop_state_graph.specs.graphs.StateGraph.{with_symbol}
use Rattle.lalrpop_state_graph.specs.declared.state_graph.neighbours.Successors.{Successors}
use Rattle.lalrpop_state_graph.specs.declared.state_graph.neighbours.Predecessors.{Predecessors}

-- the targets that are left
abbrev pub targets_left : Successors → List StateIndex
targets_left s = reverse s.targets.now

-- the sources that are left: those of the edges over the symbol of the iterator
abbrev pub sources_left : Predecessors → List StateIndex
sources_left p = reverse (with_symbol p.symbol.now p.edges.now)
