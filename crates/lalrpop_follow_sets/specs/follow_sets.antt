-- The follow sets of nonterminals in states, by one pass.
pub mod FollowNodes
pub mod FollowWalks
