-- The conflicts of states.
pub mod ConflictLists
