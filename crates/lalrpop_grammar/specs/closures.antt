-- Closures of kernels, and valid items.
pub mod Closures
