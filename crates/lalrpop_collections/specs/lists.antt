-- Lists, ordered sets and the entries of maps.
pub mod BitVectors
pub mod Bits
pub mod CheckSets
pub mod Counts
pub mod Each
pub mod Entries
pub mod Exact
pub mod LeadingBytes
pub mod Multimaps
pub mod Partitions
pub mod Places
pub mod Queues
pub mod SparseMaps
pub mod Spreading
pub mod Ties
pub mod Walks
