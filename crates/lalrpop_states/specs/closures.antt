-- Closures of kernels.
pub mod CheckClosing
pub mod Closing
pub mod Closure
