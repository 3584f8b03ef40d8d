mod Types
pub mod theory
