pub mod lane_tables
pub mod lanes
pub mod Words
