-- LR(0) states whose reductions hold the tokens of lanes.
pub mod CopiedNumbers
pub mod FoundLookaheads
pub mod LaneStates
pub mod Lr0Copies
pub mod Resolving
