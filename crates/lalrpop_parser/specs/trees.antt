-- Parse trees, walked from left to right.
pub mod EqualTrees
pub mod ParseTrees
pub mod TreeSteps
