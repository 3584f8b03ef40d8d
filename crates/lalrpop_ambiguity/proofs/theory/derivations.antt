-- Derivation trees, walked from left to right.
pub mod Dropped
pub mod Leaves
pub mod MarkedTexts
pub mod Moves
pub mod Steps
pub mod Views
