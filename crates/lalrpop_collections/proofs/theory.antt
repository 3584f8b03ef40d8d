-- Lemmas on lists, sets and collections, over the definitions of specs alone.
pub mod collections
pub mod lists
pub mod sets
pub mod states
