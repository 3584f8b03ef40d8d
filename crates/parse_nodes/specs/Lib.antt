pub mod Building
pub mod Children
pub mod Laws
pub mod Nodes
pub mod Parsing
pub mod Words
