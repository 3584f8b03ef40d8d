use Rattle.std.proofs.Common.{take}
use Rattle.lalrpop_state_graph.specs.Words.{edges, IsGraphOf}
use Rattle.lalrpop_state_graph.proofs.state_graph.StateGraph.add_states.Given as goal

-- the graph has the edges of the states so far
abbrev pub invariant-loop-number : goal.invariant-loop-number
invariant-loop-number g l = IsGraphOf (edges (take l.first l.states)) l.initial.self → IsGraphOf (edges (take l.number l.states)) l.self
