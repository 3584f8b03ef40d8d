pub mod useful
pub mod Words
