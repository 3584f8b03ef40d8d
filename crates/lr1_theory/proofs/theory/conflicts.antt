-- The conflicts of states.
pub mod Conflicts
