use Rattle.std.proofs.Common.{◌≡◌, false, List, length}
use Rattle.lalrpop_base.specs.Words.{Bits}
use Rattle.lalrpop_state_graph.proofs.Types.{State}
use Rattle.lalrpop_state_graph.specs.Words.{AreCopies, edges, IsGraphOf}
use Rattle.lalrpop_state_graph.proofs.theory.graphs.GraphCopies.{partway}
use Rattle.lalrpop_state_graph.proofs.state_graph.StateGraph.follow_states.Given as goal

-- the graph has the new edges of the states so far, and the old edges of the other states
abbrev pub invariant-loop-number : goal.invariant-loop-number
invariant-loop-number l = (handed : List (State Bits)) → length handed ≡ l.count → AreCopies false handed l.originals l.states → IsGraphOf (edges handed) l.initial.self → IsGraphOf (partway handed l.states l.number) l.self
