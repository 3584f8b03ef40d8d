-- The states of a lane table, joined and copied.
pub mod CopySearch
pub mod LaneCopies
pub mod LanePatches
pub mod LinkedStates
pub mod MergeWalks
pub mod Merges
pub mod NewCopies
pub mod StateSets
