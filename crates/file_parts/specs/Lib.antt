pub mod Bits
pub mod Fixed
pub mod Lines
