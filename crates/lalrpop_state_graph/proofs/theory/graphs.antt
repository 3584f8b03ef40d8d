-- Graphs of states.
pub mod GraphCopies
pub mod MovedOrigins
pub mod StateGraphs
pub mod StateNumbers
pub mod Stepping
