-- Parse trees, walked from left to right.
pub mod DroppedTrees
pub mod TreeLeaves
pub mod TreeSteps
pub mod TreeViews
