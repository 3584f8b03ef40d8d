pub mod Arrays
pub mod Errors
pub mod FileArrays
pub mod Hidden
pub mod Parsers
pub mod Rows
pub mod Sides
pub mod Texts
