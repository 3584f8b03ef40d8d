-- Lemmas on the numbers of a grammar, over the definitions of specs alone.
pub mod construction
pub mod numbers
