pub mod Arrays
pub mod Enumerations
pub mod File
pub mod Lists
pub mod Literals
pub mod Parts
