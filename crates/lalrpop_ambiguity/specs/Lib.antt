pub mod derivations
pub mod witnesses
pub mod Words
