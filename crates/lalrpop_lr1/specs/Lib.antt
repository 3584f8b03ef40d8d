pub mod runs
pub mod Words
pub use Rattle.lalrpop_base.specs.Words as BaseWords
pub use Rattle.lalrpop_tables.specs.Words as TablesWords
