-- Canonical states, LR(0) states, and states by number.
pub mod Canonical
pub mod Lr0
pub mod NumberedStates
pub mod SamePlaces
