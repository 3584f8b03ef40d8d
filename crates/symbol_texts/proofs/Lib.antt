pub mod Counted
pub mod DistinctNames
pub mod Marks
pub mod NameLemmas
pub mod NamesDiffer
pub mod TextLemmas
pub mod WordTexts
