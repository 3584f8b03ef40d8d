-- States and their items.
pub mod ActionEntries
pub mod CheckStates
pub mod Coherent
pub mod Contents
pub mod Edges
pub mod Items
pub mod StateCopies
pub mod ViewFolds
pub mod Views
