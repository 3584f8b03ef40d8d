pub mod Trees
pub mod Shown
pub mod Answers
