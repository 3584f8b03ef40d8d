pub mod Filled
pub mod Outcomes
