-- The definitions that the contracts of this crate use, by the modules that have them.
pub use Rattle.lalrpop_state_graph.specs.graphs.Copies.{AreCopies, AreReductionsOf}
pub use Rattle.lalrpop_state_graph.specs.graphs.Copies.{IsCopyOf}
pub use Rattle.lalrpop_state_graph.specs.graphs.Copies.{index}
pub use Rattle.lalrpop_state_graph.specs.graphs.Neighbours.{sources_left}
pub use Rattle.lalrpop_state_graph.specs.graphs.StateGraph.{AddsStates, AreSameLists, Edge, edge_from, HaveSameStates, IsChangedAt, IsGraphOf, IsGrown, IsListedAt, IsStepBack, edge, edges, edges_from, edges_of, goto_edges}
pub use Rattle.lalrpop_state_graph.specs.graphs.StateGraph.{list_at, listed, nowhere, origin_of, origins, origins_of, over, shift_edges, sources_over, state_cmp, targets_from}
pub use Rattle.lalrpop_state_graph.specs.graphs.StateGraph.{targets_of, with_symbol}
