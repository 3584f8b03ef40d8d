pub mod construction
pub mod renumbering
pub mod Words
