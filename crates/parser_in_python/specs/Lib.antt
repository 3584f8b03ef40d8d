pub mod Classes
pub mod File
pub mod Literals
pub mod Parts
pub mod Tables
