-- Closures of kernels.
pub mod Closing
