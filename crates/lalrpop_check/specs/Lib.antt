pub mod check
pub mod Words
