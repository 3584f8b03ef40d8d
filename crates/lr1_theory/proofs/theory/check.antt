-- Theorems for the check of tables.
pub mod CheckSending
