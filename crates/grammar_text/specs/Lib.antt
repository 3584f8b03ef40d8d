pub mod Symbols
pub mod Lines
pub mod Grammar
pub mod Faults
pub mod Collected
pub mod Builder
