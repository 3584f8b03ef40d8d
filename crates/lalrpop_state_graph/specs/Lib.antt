pub mod graphs
pub mod Words
