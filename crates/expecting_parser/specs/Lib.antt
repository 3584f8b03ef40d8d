pub mod Expecting
pub mod Kept
pub mod Names
pub mod Words
