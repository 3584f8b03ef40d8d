-- Theorems that the proofs of the functions use, in a folder for each topic.
pub mod canonical
pub mod closures
pub mod conflicts
pub mod construction
pub mod early_stop
pub mod grammars
pub mod numbers
pub mod states
