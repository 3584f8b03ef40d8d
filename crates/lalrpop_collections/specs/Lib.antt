pub mod lists
pub mod states
pub mod Words
