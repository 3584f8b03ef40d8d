-- The transitions and reductions that a construction makes.
pub mod Transitions
