use Rattle.std.proofs.Common.{◌≡◌, length}
use Rattle.lalrpop_state_graph.specs.Words.{sources_left}
use Rattle.lalrpop_state_graph.proofs.state_graph.neighbours.PredecessorsIterator.next.Given as goal

-- the edges that were passed have another symbol
abbrev pub invariant-loop-last : goal.invariant-loop-last
invariant-loop-last l = sources_left l.self ≡ sources_left l.initial.self

abbrev pub decreases-loop-last : goal.decreases-loop-last
decreases-loop-last l = length l.self.edges.now
