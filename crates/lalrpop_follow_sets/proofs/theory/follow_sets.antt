-- The follow sets of nonterminals in states, by one pass.
pub mod ExpansionWalks
pub mod FollowBits
pub mod FollowClosures
pub mod FollowFound
pub mod FollowGraphs
pub mod FollowNodes
pub mod FollowPasses
pub mod FollowSets
pub mod FollowSteps
pub mod FollowTokens
pub mod FollowUnions
pub mod FollowWalks
pub mod InitialSets
pub mod Lookbacks
pub mod StartNode
pub mod TransitionNodes
