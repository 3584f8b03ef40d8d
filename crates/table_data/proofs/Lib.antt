pub mod Loops
pub mod NamedSets
pub mod NumberedSets
pub mod PlainTexts
