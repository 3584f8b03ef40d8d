pub mod reports
pub mod Words
pub use Rattle.lalrpop_base.specs.Words as BaseWords
