pub mod Codes
pub mod HiddenLemmas
pub mod RowLemmas
pub mod ArrayLemmas
pub mod ArrayJoins
