-- The conflicts of states.
pub mod AllConflicts
pub mod ConflictCounts
pub mod ErrorTexts
pub mod Failures
pub mod HeldShifts
pub mod NilConflicts
pub mod StateConflicts
