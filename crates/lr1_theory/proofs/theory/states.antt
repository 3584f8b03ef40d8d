-- States and their items.
pub mod CheckStates
pub mod Copies
pub mod Lr0
