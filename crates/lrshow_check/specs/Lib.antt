pub mod Output
pub mod Built
pub mod Findings
pub mod Check
