-- Kernels of states, by number.
pub mod Kernels
