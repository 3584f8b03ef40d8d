-- Closures of kernels, and valid items.
pub mod Canonical
pub mod Closures
pub mod LeastClosures
