-- Conflicts that are explained.
pub mod OwnErrors
