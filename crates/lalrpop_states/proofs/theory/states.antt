-- States and their items.
pub mod ContentsViews
pub mod DotLemmas
pub mod EdgeLemmas
pub mod HeldTokens
pub mod ViewLemmas
