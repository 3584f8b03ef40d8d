pub mod Texts
pub mod Growth
pub mod Numbered
pub mod WellFormed
pub mod TooLong
pub mod Reading
pub mod Refused
