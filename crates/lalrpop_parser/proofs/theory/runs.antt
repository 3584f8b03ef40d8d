-- Runs of the parser.
pub mod FaithfulAnswers
pub mod FaithfulStacks
pub mod Interpreted
pub mod MachineRuns
pub mod Outcomes
pub mod Parses
pub mod Popping
pub mod Stacks
