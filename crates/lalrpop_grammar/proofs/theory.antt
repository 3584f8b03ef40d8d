-- The theory of LR(1) parsing, over the definitions of specs alone.
pub mod closures
pub mod conflicts
pub mod first
pub mod grammars
pub mod lists
pub mod runs
pub mod states
