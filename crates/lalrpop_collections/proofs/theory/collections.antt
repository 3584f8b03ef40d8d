-- Queues, walks, sparse maps and multimaps.
pub mod JoinedEntries
pub mod MultimapLemmas
pub mod Queues
pub mod SparseMaps
pub mod Walks
