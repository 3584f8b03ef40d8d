-- The results of the canonical construction.
pub mod CanonicalAnswers
pub mod ConflictFree
