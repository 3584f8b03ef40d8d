use Rattle.std.proofs.Common.{drop}
use Rattle.lalrpop_state_graph.proofs.theory.graphs.Stepping.{IsSteppingBack}
use Rattle.lalrpop_state_graph.proofs.state_graph.StateGraph.step_back.Given as goal

abbrev pub invariant-loop-state : goal.invariant-loop-state
invariant-loop-state l = IsSteppingBack l.self l.symbol (drop l.state-index l.states) l.states l.sources.items
