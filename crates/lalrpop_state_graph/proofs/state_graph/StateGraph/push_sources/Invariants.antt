use Rattle.lalrpop_state_graph.specs.Words.{sources_left}
use Rattle.lalrpop_state_graph.proofs.theory.graphs.Stepping.{IsAddingStates}
use Rattle.lalrpop_state_graph.proofs.state_graph.StateGraph.push_sources.Given as goal

abbrev pub invariant-loop-source : goal.invariant-loop-source
invariant-loop-source l = IsAddingStates (sources_left l.source-iterator) (sources_left l.initial.source-iterator) l.initial.sources.items l.sources.items
