-- States under other numbers.
pub mod Moved
pub mod Renumbered
