-- Canonical states and LR(0) states.
pub mod Canonical
pub mod CanonicalAnswers
pub mod CanonicalConflicts
pub mod CanonicalContents
pub mod ConflictFree
pub mod Deciding
pub mod Lr0States
pub mod OrderedCanonical
pub mod SameConstruction
