-- The conflicts of states.
pub mod CanonicalConflicts
pub mod ListedConflicts
