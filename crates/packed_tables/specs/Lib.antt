pub mod Lookup
pub mod Packed
