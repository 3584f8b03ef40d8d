-- The definitions that the contracts of this crate use, by the modules that have them.
pub use Rattle.lalrpop_states.specs.check.CheckCarrying.{AllHoldTableTokens, AreCarried, AreCarriedTo, Carried, CarriesFromPlace, HasPropagatedIn, HasStarted, HoldsTableTokens, IsPlaceAtStart}
pub use Rattle.lalrpop_states.specs.check.CheckCarrying.{IsCarriedTo, IsInto, IsOver, Sends, at_place, target_from, target_in}
pub use Rattle.lalrpop_states.specs.check.CheckCarrying.{IsClosedAt}
pub use Rattle.lalrpop_states.specs.closures.CheckClosing.{AreClosure, IsOneAtStart, IsExpansionOf, IsMovedIn, IsMovedOf}
pub use Rattle.lalrpop_states.specs.closures.Closing.{AreOwn, Begins, HasPropagated}
pub use Rattle.lalrpop_states.specs.closures.Closing.{IsTokenClosed, IsTokenClosedAt}
pub use Rattle.lalrpop_states.specs.closures.Closure.{AreItems, AreItemsBy, ClosureTable, HasItemToken, HasItemTokenBy, InKernel, InTokenClosureBy}
pub use Rattle.lalrpop_states.specs.closures.Closure.{IsClosureBy, IsClosureOf, IsItemBy, IsItemOf, lr0_at_start, from_parent}
pub use Rattle.lalrpop_states.specs.closures.Closure.{from_rest, item_of, meant, own_token}
pub use Rattle.lalrpop_states.specs.collapse.Collapsible.{AreAlike, AreCollapsible, IsAlikeTo, LeadAlike, dots_at, dots_of}
pub use Rattle.lalrpop_states.specs.collapse.Merging.{AreFirstNumbers, AreJoinedReductions, AreTokensOf, HasReduction, HasReductionOn, HasTokensOf, IsJoined}
pub use Rattle.lalrpop_states.specs.collapse.Merging.{IsPlacedAt, IsReduced, Places, bare, joined, joined_at, joined_item, joined_items, pushed}
pub use Rattle.lalrpop_states.specs.conflicts.AllConflicts.{AreAllConflicts, FailWith}
pub use Rattle.lalrpop_states.specs.conflicts.AllConflicts.{AreAllConflictFree, ListsAll, more}
pub use Rattle.lalrpop_states.specs.conflicts.ConflictCounts.{count_on_bit, count_on_place, later_count, reduce_conflict_count, shift_conflict_count}
pub use Rattle.lalrpop_states.specs.conflicts.ErrorTexts.{build_error_text, conflicts_text}
pub use Rattle.lalrpop_states.specs.conflicts.Failures.{IfConflicts}
pub use Rattle.lalrpop_states.specs.conflicts.Failures.{TellsNotLALR1}
pub use Rattle.lalrpop_states.specs.conflicts.NilConflicts.{nil_conflict, nil_conflicts, nil_shift_conflicts}
pub use Rattle.lalrpop_states.specs.conflicts.StateConflicts.{conflicts_on_bit, conflicts_on_place, later_conflicts, meet, reduce_conflict, reduce_conflicts, share}
pub use Rattle.lalrpop_states.specs.conflicts.StateConflicts.{shift_conflict, shift_conflicts, state_conflicts}
pub use Rattle.lalrpop_states.specs.construction.Transitions.{AddsKernels}
pub use Rattle.lalrpop_states.specs.construction.Transitions.{AreEdges, AreMoves, Groups, HasNoGroup, IsBehind, IsBehindOne, IsMoveAdded}
pub use Rattle.lalrpop_states.specs.construction.Transitions.{AreEdgesListed, AreTransitions, Entries, HasEntry, IsEntryAdded, GroupLeadsTo, edge_entries, list_entries}
pub use Rattle.lalrpop_states.specs.construction.Transitions.{Shifts, ShiftsAscend, reductions_of, seen_reduction, shifted}
pub use Rattle.lalrpop_states.specs.grammars.Ascending.{Ascend, Precedes, production_order}
pub use Rattle.lalrpop_states.specs.states.ActionEntries.{ReduceBy, ShiftTo, TableEntry, action_on, shift_of, shift_or, table_entry}
pub use Rattle.lalrpop_states.specs.states.CheckStates.{AreRightStates, IsRightItem, IsRightState, IsRightTarget, IsTarget, LeadsBy, LeadsFrom, LeadsOn, Lists}
pub use Rattle.lalrpop_states.specs.states.CheckStates.{finished}
pub use Rattle.lalrpop_states.specs.states.Coherent.{AreCoherent, AreFinished, HasItem, IsAt, IsCoherentEdge, IsCoherentState, IsCoherentStep, IsShiftedFrom, StartsAtZero}
pub use Rattle.lalrpop_states.specs.states.Coherent.{symbol_of_ref}
pub use Rattle.lalrpop_states.specs.states.Contents.{contents, contents_at, contents_in, contents_of, has_at, holds_token, no_contents, number_of}
pub use Rattle.lalrpop_states.specs.states.Contents.{reduced_productions, reduction_of}
pub use Rattle.lalrpop_states.specs.states.Edges.{StateEdge, goto_edge, seen_edge, shift_edge, state_edges}
pub use Rattle.lalrpop_states.specs.states.Items.{Dotted, dots, dotted_exact, dotted_of, with_dot}
pub use Rattle.lalrpop_states.specs.states.ViewFolds.{longer_of, longest_from, shorter_of, shortest_from}
pub use Rattle.lalrpop_states.specs.states.Views.{AreAll, IsFirstShortest, IsFirstShortestOrEmpty, IsLastLongest, has_moved, moved, nonterminal_of, prefix_of, rest_of}
