pub mod Words
pub mod WordConflicts
pub mod WordMoves
