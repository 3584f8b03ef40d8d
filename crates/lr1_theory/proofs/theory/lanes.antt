-- Lanes traced back over LR(0) states, and the tokens that they find.
pub mod LaneTables
pub mod Lanes
