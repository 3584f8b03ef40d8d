-- Runs of the parser.
pub mod AnyStart
pub mod ByTables
pub mod OutcomeByTables
