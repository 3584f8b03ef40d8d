-- LR(0) states whose reductions hold the tokens of lanes.
pub mod LanePlaces
