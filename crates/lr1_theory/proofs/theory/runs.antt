-- Runs of the parser.
pub mod Outcomes
pub mod Prompt
