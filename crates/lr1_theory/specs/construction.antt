-- The states that a construction makes.
pub mod States
