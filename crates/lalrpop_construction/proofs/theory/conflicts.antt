-- The conflicts of states.
pub mod ConflictFree
pub mod GrownConflicts
pub mod ListedConflicts
pub mod NumberedConflicts
