-- Lanes that are traced back over LR(0) states, and the tokens that they find.
pub mod LaneActions
