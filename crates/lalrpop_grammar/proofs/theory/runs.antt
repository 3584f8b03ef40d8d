-- Runs of the parser.
pub mod Beginnings
pub mod Reading
pub mod Refusals
pub mod Runs
pub mod Sentences
pub mod Stacks
pub mod Steps
