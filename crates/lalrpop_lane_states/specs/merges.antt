-- The states of a lane table, joined and copied.
pub mod MergeWalks
pub mod Merges
pub mod StateSets
