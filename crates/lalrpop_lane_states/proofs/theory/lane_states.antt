-- LR(0) states whose reductions hold the tokens of lanes.
pub mod CopiedNumbers
pub mod CopiedPasses
pub mod CopiedShape
pub mod FoundPlaces
pub mod FoundResolving
pub mod FoundSets
pub mod LaneAnswers
pub mod LaneCoherent
pub mod LaneFound
pub mod LaneLoop
pub mod LanePromoted
pub mod LaneResolved
pub mod LaneShape
pub mod Lr0Copies
pub mod ResolvedCopies
pub mod Resolving
