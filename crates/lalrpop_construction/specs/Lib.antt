pub mod canonical
pub mod closures
pub mod conflicts
pub mod construction
pub mod states
pub mod Words
