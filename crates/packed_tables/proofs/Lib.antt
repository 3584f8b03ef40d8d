pub mod RowLemmas
pub mod PlaceLemmas
