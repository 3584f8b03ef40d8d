-- The definitions that the contracts of this crate name, each with its file.
pub use Rattle.lalrpop_lane_states.specs.lane_states.LaneStates.{AreLalrLaneTables, AreLaneStates, AreLaneTables, AreLr0Tables, AreTraced}
pub use Rattle.lalrpop_lane_states.specs.lane_states.LaneStates.{HasActionBit, HaveFullItems, HaveMeetingLanes}
pub use Rattle.lalrpop_lane_states.specs.lane_states.LaneStates.{HoldAllFrom, HoldsAll, IsAttempted, IsBitAt, IsFull, IsPromoted, IsResolvedAt, IsStateStep}
pub use Rattle.lalrpop_lane_states.specs.lane_states.LaneStates.{IsTokenOf, promoted_item}
pub use Rattle.lalrpop_lane_states.specs.lane_states.LaneStates.{promoted_reduction}
pub use Rattle.lalrpop_lane_states.specs.lane_states.Lr0Copies.{AreClosedTables, AreCopiedConflicts, AreCopiedTables, AreLr0Copies, FailsByCopies}
pub use Rattle.lalrpop_lane_states.specs.lane_states.Resolving.{AreResolvedBetween, AreResolvedUpTo, HasOverlap, HasSameReductions, IsApartAt, IsCopied, IsResolving, IsResolveStep}
pub use Rattle.lalrpop_lane_states.specs.lanes.LaneActions.{ActionsAscend, AreActions}
pub use Rattle.lalrpop_lane_states.specs.lanes.LaneActions.{action_order, asked_actions, conflict_actions}
pub use Rattle.lalrpop_lane_states.specs.lanes.LaneActions.{reduce_action}
pub use Rattle.lalrpop_lane_states.specs.merges.MergeWalks.{ComesTo, HasJoinedBut, IsJoin, IsJoinMade, IsMergeWalk, join_to, joins_to, most_joins}
pub use Rattle.lalrpop_lane_states.specs.merges.Merges.{Advances, AreApart, AreTargetsAmong, AreUnited, HasJoined, HasWalked, HaveNoNewMarks, HaveWalked, HasEdge, HasTarget}
pub use Rattle.lalrpop_lane_states.specs.merges.Merges.{IsApart, IsContext, IsFreshCopy, IsJoinedCopy, IsRedirected, IsCopyLimit, IsLinked, IsLonger, IsMerging, IsPatchable, IsPushed, IsResolvedCopy, IsTaken}
pub use Rattle.lalrpop_lane_states.specs.merges.Merges.{CannotJoin, IsApartIfNone, IsRefusedJoin, IsVisited, HasOriginalRow, KeepsStates, TookOwnColumns, replaced_number, unset, unvisited}
pub use Rattle.lalrpop_lane_states.specs.merges.StateSets.{AddsColumns, AreJoined, HasSet, IsJoint, IsMade, OwnSets, columns_of, context_of, replaced_entry, replaced_set}
pub use Rattle.lalrpop_lane_states.specs.merges.StateSets.{set_of}
