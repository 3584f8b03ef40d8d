-- Kernels of states, by number.
pub mod KernelLemmas
pub mod Settled
