pub mod traces
pub mod Words
