pub mod Keeping
pub mod Reported
