-- States and their items.
pub mod RightStates
