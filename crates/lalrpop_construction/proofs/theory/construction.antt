-- The states that a construction makes: kernels, transitions and reductions.
pub mod Building
pub mod ClosedStates
pub mod Coherence
pub mod Lookaheads
pub mod Moves
pub mod NumberedBuilding
pub mod NumberedEdges
pub mod NumberedMoves
pub mod PermutedMoves
pub mod Reductions
pub mod SameKernels
pub mod Shifting
pub mod StateEdges
