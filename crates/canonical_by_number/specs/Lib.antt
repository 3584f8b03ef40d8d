pub mod Closures
pub mod Conflicts
pub mod Edges
pub mod Kernels
pub mod States
pub mod TokenSets
pub mod Words
