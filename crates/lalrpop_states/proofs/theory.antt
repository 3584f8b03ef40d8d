-- Theorems on the definitions in specs, which mention no function.
pub mod closures
pub mod collapse
pub mod conflicts
pub mod grammars
pub mod states
