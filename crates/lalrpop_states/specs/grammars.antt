-- The order of productions and items.
pub mod Ascending
