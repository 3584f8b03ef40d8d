pub mod Builds
pub mod Children
pub mod Rows
pub mod Seen
pub mod Unique
pub mod Walks
pub mod Widths
