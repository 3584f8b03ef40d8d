pub mod runs
pub mod trees
pub mod Words
pub use Rattle.lalrpop_base.specs.Words as BaseWords
