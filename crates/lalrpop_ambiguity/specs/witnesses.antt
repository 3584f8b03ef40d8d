-- Witnesses of ambiguity.
pub mod Searches
pub mod Witnesses
