pub mod explained
pub mod Words
