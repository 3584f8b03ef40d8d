-- The theory of LR(1) parsing: theorems on the definitions in specs, which mention no function.
pub mod check
pub mod closures
pub mod collapse
pub mod conflicts
pub mod grammars
pub mod instances
pub mod lanes
pub mod renumbering
pub mod runs
pub mod states
