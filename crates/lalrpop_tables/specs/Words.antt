-- The definitions that the contracts of this crate name, each with the file that has it.
pub use Rattle.lalrpop_tables.specs.answers.Lr1Answers.{AreBuiltTablesOf, AreTablesBy, AreTablesOf, FailsOn, HasConflictsOf}
pub use Rattle.lalrpop_tables.specs.answers.TablesOrCount.{AreBuiltTablesOrCount, AreTablesOrCount}
pub use Rattle.lalrpop_construction.specs.canonical.CanonicalAnswers.{AreCanonicalTables, AreCanonicalTablesOrCount, FailsByConflicts, HasCanonicalConflicts, IsConflictCount, LacksTables, MatchTablesOrCount, up_to_greatest}
pub use Rattle.lalrpop_tables.specs.canonical.Laws.{AreNilTables, AreSetTables, IsKeptGrammar, StopsWithNil, StopsWithSets, lr0_construction}
pub use Rattle.lalrpop_check.specs.check.Check.{HoldCarried, PassCheck}
pub use Rattle.lalrpop_check.specs.check.ExpectedKernels.{AreMovedKernel, IsKernelAt, IsKernelOf, IsMovedNumber, NumbersRise, no_tokens}
pub use Rattle.lalrpop_construction.specs.closures.EpsilonMoves.{AreItemsAtStart, AreEpsilonMoves, IsItemAtStart}
pub use Rattle.lalrpop_construction.specs.closures.Propagation.{AllFit, HasTokensThatFollow, IsExpansionWith, IsNamed, IsPropagated, IsPropagation, MayFollow, MayFollowIn, NonterminalTokens, Propagates, StandsBehind}
pub use Rattle.lalrpop_construction.specs.closures.Propagation.{StandsBehindOne, expansions_in, numbered_of, parts_in, unfolded, with_tokens}
pub use Rattle.lalrpop_tables.specs.collapse.Collapsed.{AreCollapsedTables, AreOrdered, FailsByCollapse, HoldsAt, IsCollapsed, IsMerge, HasNewNumber, IsOrderedState}
pub use Rattle.lalrpop_tables.specs.collapse.Collapsed.{OfMember, ReducesBy, ReducesOn, dots_in}
pub use Rattle.lalrpop_tables.specs.collapse.Lalr.{AreLalrTables, AreMergedTables, AreRenumberedMerged, Collapses, FailsAsLalr, HasCoherentStates, HasOrderedStates}
pub use Rattle.lalrpop_construction.specs.conflicts.CanonicalConflicts.{AreCanonicalConflictsOf, AreConflictsOfFailure, ShiftsLead, StatesAscend, listed_of}
pub use Rattle.lalrpop_construction.specs.conflicts.ListedConflicts.{conflict_of, conflicts_of}
pub use Rattle.lalrpop_construction.specs.construction.Building.{AreMadeSoFar, Building}
pub use Rattle.lalrpop_construction.specs.construction.EarlyStop.{AreEnough, AreMadeFor, AreMadeUntilBy, ArePartlyBuilt, ArePartlyBuiltBy, AreSomeCanonicalStates}
pub use Rattle.lalrpop_construction.specs.construction.EarlyStop.{AreSomeLr0States, FailsAfterLr0, GoesOnBeforeLast, HasDotted, HaveSameContents, IsLr0StateFor, IsStateFor}
pub use Rattle.lalrpop_construction.specs.construction.EarlyStop.{FailsAfter}
pub use Rattle.lalrpop_construction.specs.construction.EarlyStop.{ListFewer, Lr0StopsAfter, StopsAfter, StopsFor}
pub use Rattle.lalrpop_construction.specs.construction.Ready.{IsReadyToBuild}
pub use Rattle.lalrpop_construction.specs.construction.Results.{AreStatesFor, AreStatesOf, AreTables, AreTablesFor, Construction, FailsBy, FailsFor}
pub use Rattle.lalrpop_construction.specs.construction.Results.{Settings, canonical_of}
pub use Rattle.lalrpop_construction.specs.construction.Results.{construction_of}
pub use Rattle.lalrpop_state_graph.specs.graphs.Copies.{AreCopies, AreReductionsOf}
pub use Rattle.lalrpop_state_graph.specs.graphs.Copies.{IsCopyOf}
pub use Rattle.lalrpop_state_graph.specs.graphs.Copies.{index}
pub use Rattle.lalrpop_state_graph.specs.graphs.Neighbours.{sources_left}
pub use Rattle.lalrpop_state_graph.specs.graphs.StateGraph.{AddsStates, AreSameLists, Edge, edge_from, HaveSameStates, IsChangedAt, IsGraphOf, IsGrown, IsListedAt, IsStepBack, edge, edges, edges_from, edges_of, goto_edges}
pub use Rattle.lalrpop_state_graph.specs.graphs.StateGraph.{list_at, listed, nowhere, origin_of, origins, origins_of, over, shift_edges, sources_over, state_cmp, targets_from}
pub use Rattle.lalrpop_state_graph.specs.graphs.StateGraph.{targets_of, with_symbol}
pub use Rattle.lalrpop_lane_states.specs.lane_states.LaneStates.{AreLalrLaneTables, AreLaneStates, AreLaneTables, AreLr0Tables, AreTraced}
pub use Rattle.lalrpop_lane_states.specs.lane_states.LaneStates.{HasActionBit, HaveFullItems, HaveMeetingLanes}
pub use Rattle.lalrpop_lane_states.specs.lane_states.LaneStates.{HoldAllFrom, HoldsAll, IsAttempted, IsBitAt, IsFull, IsPromoted, IsResolvedAt, IsStateStep}
pub use Rattle.lalrpop_lane_states.specs.lane_states.LaneStates.{IsTokenOf, promoted_item}
pub use Rattle.lalrpop_lane_states.specs.lane_states.LaneStates.{promoted_reduction}
pub use Rattle.lalrpop_lane_states.specs.lane_states.Lr0Copies.{AreClosedTables, AreCopiedConflicts, AreCopiedTables, AreLr0Copies, FailsByCopies}
pub use Rattle.lalrpop_lane_states.specs.lane_states.Resolving.{AreResolvedUpTo, HasOverlap, HasSameReductions, IsApartAt, IsCopied, IsResolving, IsResolveStep}
pub use Rattle.lalrpop_lanes.specs.lane_tables.LaneRows.{AddsRows, AreGathered, AreRowsOf, Cells, HasCells, HasIn, HasSuccessor, JoinsRow, MakesRow, MeetsRow, Rows, AreColumnsOf}
pub use Rattle.lalrpop_lanes.specs.lane_tables.LaneRows.{Successors, ThisRow, row_at}
pub use Rattle.lalrpop_lanes.specs.lane_tables.LaneTableStates.{AreReached, HasCellsBelow, IsClosedEdge}
pub use Rattle.lalrpop_lanes.specs.lane_tables.LaneTables.{AddsSuccessor, AddsTokens, AreColumns, AreInRange, AreSameTables, ColumnsOverlap, HasCell, HasRow, InColumn}
pub use Rattle.lalrpop_lanes.specs.lane_tables.LaneTables.{IsBeachhead, IsClosed, IsEmptyTable, IsRow, IsSuccessor, KeepsAll, RowOverlaps, column}
pub use Rattle.lalrpop_lanes.specs.lanes.Contexts.{AreAmong, AreDisjoint, AreReducedAmong, HasAt, IsApplied, IsJoinedIn, IsReductionAt, IsUnion, MeetInUnion}
pub use Rattle.lalrpop_lanes.specs.lanes.Contexts.{MeetsOther, Reduces, TookColumn}
pub use Rattle.lalrpop_follow_sets.specs.lanes.FollowGraphs.{HasBitAtOnce, HasLookbackNodes, HaveNodesAtStart, IsFollowGraph, IsFollowNode, IsUnionOver}
pub use Rattle.lalrpop_follow_sets.specs.lanes.FollowSets.{FollowsAtOnce, HasLookaheadBits, HoldsLookaheads, InFollow, IncludesFollow, IsLookahead, LeadsOver, at_once}
pub use Rattle.lalrpop_follow_sets.specs.lanes.FollowSets.{ends_input, included, is_first_behind}
pub use Rattle.lalrpop_lane_states.specs.lanes.LaneActions.{ActionsAscend, AreActions}
pub use Rattle.lalrpop_lane_states.specs.lanes.LaneActions.{action_order, asked_actions, conflict_actions}
pub use Rattle.lalrpop_lane_states.specs.lanes.LaneActions.{reduce_action}
pub use Rattle.lalrpop_lanes.specs.lanes.LaneSteps.{AddsNothing, AreExpanded, Gains, GainsAll, GainsOf, GainsSome, GainsSomeOf, GainsSomeOfAll, GivesBit, GivesCell}
pub use Rattle.lalrpop_lanes.specs.lanes.LaneSteps.{GivesSuccessor, IsEnd, IsEndBit, IsEndPlace, IsFollowBit, IsAutomaton, IsHere, IsPair, IsParent, IsPassedOn, IsPlaceIf}
pub use Rattle.lalrpop_lanes.specs.lanes.LaneSteps.{Nothing, Nowhere, TracesTo, Some_of, VisitsOf, symbols_after_next}
pub use Rattle.lalrpop_follow_sets.specs.lanes.LaneTokens.{HasLaneBits}
pub use Rattle.lalrpop_follow_sets.specs.lanes.LaneTokens.{IsLaneAction, IsResolved}
pub use Rattle.lalrpop_follow_sets.specs.lanes.LaneTokens.{LanesMeet}
pub use Rattle.lalrpop_lanes.specs.lanes.LaneTraces.{GivesAt, HaveOwnItems, IsLaneBit, IsReadyToTrace, ReducesOwn, TakesAction, TakesLane, TakesPartOfAction}
pub use Rattle.lalrpop_lanes.specs.lanes.LaneTraces.{TakesPartOfLane}
pub use Rattle.lalrpop_lane_states.specs.merges.MergeWalks.{ComesTo, HasJoinedBut, IsJoin, IsJoinMade, IsMergeWalk, join_to, joins_to, most_joins}
pub use Rattle.lalrpop_lane_states.specs.merges.Merges.{Advances, AreApart, AreTargetsAmong, AreUnited, HasJoined, HasWalked, HaveNoNewMarks, HaveWalked, HasEdge, HasTarget}
pub use Rattle.lalrpop_lane_states.specs.merges.Merges.{IsApart, IsContext, IsFreshCopy, IsJoinedCopy, IsRedirected, IsCopyLimit, IsLinked, IsLonger, IsMerging, IsPatchable, IsPushed, IsResolvedCopy, IsTaken}
pub use Rattle.lalrpop_lane_states.specs.merges.Merges.{CannotJoin, IsApartIfNone, IsRefusedJoin, IsVisited, HasOriginalRow, KeepsStates, TookOwnColumns, replaced_number, unset, unvisited}
pub use Rattle.lalrpop_lane_states.specs.merges.StateSets.{AddsColumns, AreJoined, HasSet, IsJoint, IsMade, OwnSets, columns_of, context_of, replaced_entry, replaced_set}
pub use Rattle.lalrpop_lane_states.specs.merges.StateSets.{set_of}
pub use Rattle.lalrpop_tables.specs.renumbering.RenumberedTables.{AreRenumberedCopies, AreRenumberedLaneTables, AreRenumberedTables}
pub use Rattle.lalrpop_construction.specs.states.Canonical.{AreCanonicalStates, AreOrderedCanonical, FitReductions, is_with_token, tokens_of}
pub use Rattle.lalrpop_construction.specs.states.Lr0.{AreLr0States, HasLr0States, HaveNoNilConflict, ListsNilConflicts, lr0_contents, on_any}
pub use Rattle.lalrpop_construction.specs.states.SamePlaces.{HasSamePlace, HaveSamePlaces}
pub use Rattle.lalrpop_construction.specs.states.SamePlaces.{by, dot_of}
pub use Rattle.lalrpop_construction.specs.states.SamePlaces.{places_in}
