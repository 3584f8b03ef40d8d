-- The conflicts of states.
pub mod ConflictLists
pub mod Conflicts
