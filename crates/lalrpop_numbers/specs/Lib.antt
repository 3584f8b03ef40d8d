pub mod numbers
pub mod Words
