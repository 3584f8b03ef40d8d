pub mod Calls
pub mod Checked
pub mod Copied
pub mod Tables
