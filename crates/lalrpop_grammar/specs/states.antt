-- States and their items.
pub mod Copies
pub mod States
