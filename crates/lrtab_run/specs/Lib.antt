pub mod Answers
pub mod Explained
pub mod Explaining
pub mod Shown
pub mod Words
