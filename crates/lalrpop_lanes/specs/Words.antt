-- The definitions that the contracts of this crate name, each with its file.
pub use Rattle.lalrpop_lanes.specs.lane_tables.LaneRows.{AddsRows, AreGathered, AreRowsOf, Cells, HasCells, HasIn, HasSuccessor, JoinsRow, MakesRow, MeetsRow, Rows, AreColumnsOf}
pub use Rattle.lalrpop_lanes.specs.lane_tables.LaneRows.{Successors, ThisRow, row_at}
pub use Rattle.lalrpop_lanes.specs.lane_tables.LaneTableStates.{AreReached, HasCellsBelow, IsClosedEdge}
pub use Rattle.lalrpop_lanes.specs.lane_tables.LaneTables.{AddsSuccessor, AddsTokens, AreColumns, AreInRange, AreSameTables, ColumnsOverlap, HasCell, HasRow, InColumn}
pub use Rattle.lalrpop_lanes.specs.lane_tables.LaneTables.{IsBeachhead, IsClosed, IsEmptyTable, IsRow, IsSuccessor, KeepsAll, RowOverlaps, column}
pub use Rattle.lalrpop_lanes.specs.lanes.Contexts.{AreAmong, AreDisjoint, AreReducedAmong, HasAt, IsApplied, IsJoinedIn, IsReductionAt, IsUnion, MeetInUnion}
pub use Rattle.lalrpop_lanes.specs.lanes.Contexts.{MeetsOther, Reduces, TookColumn}
pub use Rattle.lalrpop_lanes.specs.lanes.LaneSteps.{AddsNothing, AreExpanded, Gains, GainsAll, GainsOf, GainsSome, GainsSomeOf, GainsSomeOfAll, GivesBit, GivesCell}
pub use Rattle.lalrpop_lanes.specs.lanes.LaneSteps.{GivesSuccessor, IsEnd, IsEndBit, IsEndPlace, IsFollowBit, IsAutomaton, IsHere, IsPair, IsParent, IsPassedOn, IsPlaceIf}
pub use Rattle.lalrpop_lanes.specs.lanes.LaneSteps.{Nothing, Nowhere, TracesTo, Some_of, VisitsOf, symbols_after_next}
pub use Rattle.lalrpop_lanes.specs.lanes.LaneTraces.{GivesAt, HaveOwnItems, IsLaneBit, IsReadyToTrace, ReducesOwn, TakesAction, TakesLane, TakesPartOfAction}
pub use Rattle.lalrpop_lanes.specs.lanes.LaneTraces.{TakesPartOfLane}
