-- Merging of states that have the same dotted productions.
pub mod Merging
