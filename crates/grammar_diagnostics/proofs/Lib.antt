pub mod SameFaults
pub mod Within
pub mod LineNumbers
pub mod FoundWords
pub mod Uses
pub mod NearestNames
pub mod CycleSteps
pub mod Doubts
