-- Useful and doubtful parts of a grammar.
pub mod Cycles
pub mod KnownCycles
pub mod Productive
pub mod Reachable
pub mod Repeats
pub mod Undefined
pub mod Users
