-- Lanes that are traced back over LR(0) states, and the tokens that they find.
pub mod Contexts
pub mod Expanded
pub mod Gains
pub mod GainsSome
pub mod LaneTraces
pub mod LanesTaken
pub mod OwnItems
pub mod SomeOf
pub mod Unepsilon
pub mod Unshifting
