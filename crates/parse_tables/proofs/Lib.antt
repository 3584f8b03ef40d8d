pub mod Packed
pub mod ActionRows
pub mod Sides
pub mod StateRows
