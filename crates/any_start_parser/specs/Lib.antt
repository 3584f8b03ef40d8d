pub mod Augmented
pub mod Below
pub mod Expected
pub mod Laws
pub mod Lists
pub mod Nodes
pub mod Words
