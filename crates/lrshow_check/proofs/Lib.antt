pub mod Checked
pub mod Doubts
