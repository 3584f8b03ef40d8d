pub mod Causes
pub mod CauseTexts
pub mod CauseLines
pub mod ExampleTexts
pub mod Extents
pub mod Keys
