pub mod Extents
pub mod Groups
pub mod Paragraphs
pub mod SameKeys
pub mod ShiftItems
pub mod CauseLines
