pub mod lane_states
pub mod lanes
pub mod merges
pub mod Words
