pub mod check
pub mod closures
pub mod collapse
pub mod conflicts
pub mod construction
pub mod grammars
pub mod states
pub mod Words
