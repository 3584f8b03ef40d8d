-- Runs of the parser.
pub mod Answers
pub mod FaithfulAnswers
pub mod Machines
pub mod Reading
pub mod Steps
