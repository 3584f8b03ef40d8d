-- The lemmas that the proofs of the functions use, in a folder for each topic.
pub mod follow_sets
pub mod lane_tables
pub mod lanes
