-- Sets of bits and of tokens, and the words that hold them.
pub mod BitCounts
pub mod BitLemmas
pub mod BitSets
pub mod BitVectorLemmas
pub mod Subsets
pub mod TokenSetLemmas
pub mod WordLemmas
pub mod WordsOf
