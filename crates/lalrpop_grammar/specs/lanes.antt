-- Lanes traced back over LR(0) states, and the tokens that they give.
pub mod Lanes
