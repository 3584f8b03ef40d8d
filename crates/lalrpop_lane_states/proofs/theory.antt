-- The lemmas that the proofs of the functions use, in a folder for each topic.
pub mod lane_states
pub mod lane_tables
pub mod lanes
pub mod merges
