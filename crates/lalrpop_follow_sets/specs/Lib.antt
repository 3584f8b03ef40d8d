pub mod follow_sets
pub mod lanes
pub mod Words
