mod WordConflictLemmas
pub mod WordMoves
