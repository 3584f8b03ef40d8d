-- FIRST sets.
pub mod FirstTokens
