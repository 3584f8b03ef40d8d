-- Closures of kernels.
pub mod EpsilonMoves
pub mod Propagation
