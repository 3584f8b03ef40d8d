-- Graphs of states.
pub mod Copies
pub mod GraphCopies
pub mod Neighbours
pub mod StateGraph
