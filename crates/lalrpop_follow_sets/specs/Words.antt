-- The definitions that the contracts of this crate name, each with its file.
pub use Rattle.lalrpop_follow_sets.specs.lanes.FollowGraphs.{HasBitAtOnce, HasLookbackNodes, HaveNodesAtStart, IsFollowGraph, IsFollowNode, IsUnionOver}
pub use Rattle.lalrpop_follow_sets.specs.lanes.FollowSets.{FollowsAtOnce, HasLookaheadBits, HoldsLookaheads, InFollow, IncludesFollow, IsLookahead, LeadsOver, at_once}
pub use Rattle.lalrpop_follow_sets.specs.lanes.FollowSets.{ends_input, included, is_first_behind}
pub use Rattle.lalrpop_follow_sets.specs.lanes.LaneTokens.{HasLaneBits}
pub use Rattle.lalrpop_follow_sets.specs.lanes.LaneTokens.{IsLaneAction, IsResolved}
pub use Rattle.lalrpop_follow_sets.specs.lanes.LaneTokens.{LanesMeet}
