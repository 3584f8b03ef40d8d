-- Lanes that are traced back over LR(0) states, and the tokens that they find.
pub mod Contexts
pub mod Expanded
pub mod LaneSteps
pub mod LaneTraces
