pub mod answers
pub mod canonical
pub mod collapse
pub mod renumbering
pub mod Words
pub use Rattle.lalrpop_base.specs.Words as BaseWords
