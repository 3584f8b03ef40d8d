-- Closures of kernels, and valid dotted productions.
pub mod EpsilonMoves
pub mod PropagatedItems
pub mod Propagation
pub mod Readings
pub mod Rising
pub mod TokenTables
pub mod Unfolded
pub mod ValidClosures
