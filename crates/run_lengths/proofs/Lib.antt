pub mod Bounds
pub mod Counting
pub mod Ending
pub mod Endless
pub mod Following
pub mod Keys
pub mod Passing
