-- The conflicts of states.
pub mod ConflictCounts
pub mod ConflictLemmas
pub mod FreeStates
pub mod HeldShifts
