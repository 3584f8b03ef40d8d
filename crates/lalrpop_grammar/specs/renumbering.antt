-- States under other numbers.
pub mod Renumbering
