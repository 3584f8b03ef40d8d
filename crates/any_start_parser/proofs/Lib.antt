pub mod Below
pub mod Expected
pub mod Final
pub mod Numbers
pub mod Parses
