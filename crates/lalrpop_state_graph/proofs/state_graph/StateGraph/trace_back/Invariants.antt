use Rattle.std.proofs.Common.{length}
use Rattle.lalrpop_state_graph.proofs.theory.graphs.Stepping.{IsTracing}
use Rattle.lalrpop_state_graph.proofs.state_graph.StateGraph.trace_back.Given as goal

abbrev pub invariant-loop-symbol : goal.invariant-loop-symbol
invariant-loop-symbol l = IsTracing l.self l.left l.symbols l.fn.state l.found.items

abbrev pub decreases-loop-symbol : goal.decreases-loop-symbol
decreases-loop-symbol l = length l.left
