-- The list of the definitions that contracts use, with the place of each.
pub use Rattle.lalrpop_states.specs.check.CheckCarrying.{AllHoldTableTokens, AreCarried, AreCarriedTo, Carried, CarriesFromPlace, HasPropagatedIn, HasStarted, HoldsTableTokens, IsPlaceAtStart}
pub use Rattle.lalrpop_states.specs.check.CheckCarrying.{IsCarriedTo, IsInto, IsOver, Sends, at_place, target_from, target_in}
pub use Rattle.lalrpop_states.specs.check.CheckCarrying.{IsClosedAt}
pub use Rattle.lalrpop_states.specs.closures.CheckClosing.{AreClosure, IsOneAtStart, IsExpansionOf, IsMovedIn, IsMovedOf}
pub use Rattle.lalrpop_states.specs.closures.Closing.{AreOwn, Begins, HasPropagated}
pub use Rattle.lalrpop_states.specs.closures.Closing.{IsTokenClosed, IsTokenClosedAt}
pub use Rattle.lalrpop_states.specs.closures.Closure.{AreItems, AreItemsBy, ClosureTable, HasItemToken, HasItemTokenBy, InKernel, InTokenClosureBy}
pub use Rattle.lalrpop_states.specs.closures.Closure.{IsClosureBy, IsClosureOf, IsItemBy, IsItemOf, lr0_at_start, from_parent}
pub use Rattle.lalrpop_states.specs.closures.Closure.{from_rest, item_of, meant, own_token}
pub use Rattle.lalrpop_grammar.specs.closures.Closures.{AreCanonical, AreChecked, AreClosed, InClosure, InTokenClosure, IsAtStart, IsAtStartWith, IsCarried, IsMoved}
pub use Rattle.lalrpop_grammar.specs.closures.Closures.{IsMovedWith, IsReached, KernelsDiffer, TokenKernelsDiffer, at_zero, begins_rest, eof_at_start, expanded}
pub use Rattle.lalrpop_grammar.specs.closures.Closures.{first_of_rest, in_kernel, inherits, items_of, over, through_rest, with_token}
pub use Rattle.lalrpop_grammar.specs.collapse.Collapse.{HoldsInGroup, IsCollapse, LeadsInGroup}
pub use Rattle.lalrpop_states.specs.collapse.Collapsible.{AreAlike, AreCollapsible, IsAlikeTo, LeadAlike, dots_at, dots_of}
pub use Rattle.lalrpop_states.specs.collapse.Merging.{AreFirstNumbers, AreJoinedReductions, AreTokensOf, HasReduction, HasReductionOn, HasTokensOf, IsJoined}
pub use Rattle.lalrpop_states.specs.collapse.Merging.{IsPlacedAt, IsReduced, Places, bare, joined, joined_at, joined_item, joined_items, pushed}
pub use Rattle.lalrpop_states.specs.conflicts.AllConflicts.{AreAllConflicts, FailWith}
pub use Rattle.lalrpop_states.specs.conflicts.AllConflicts.{AreAllConflictFree, ListsAll, more}
pub use Rattle.lalrpop_states.specs.conflicts.ConflictCounts.{count_on_bit, count_on_place, later_count, reduce_conflict_count, shift_conflict_count}
pub use Rattle.lalrpop_grammar.specs.conflicts.ConflictLists.{IsReduceConflict, IsShiftConflict, LaterPart, ReduceParts, ShiftPart, ShiftParts, apart, in_conflict}
pub use Rattle.lalrpop_grammar.specs.conflicts.ConflictLists.{no_later, no_more, no_reductions, no_shifts, reduce_first, shares_none, shift_first, with_later}
pub use Rattle.lalrpop_grammar.specs.conflicts.Conflicts.{ActionPrecedes, AreCanonicalConflicts, AreConflicts, AreConflictsOf, ConflictContents, HasNoCanonicalConflict}
pub use Rattle.lalrpop_grammar.specs.conflicts.Conflicts.{IsConflict, IsInConflict, IsLess, IsOrder, ReducesInOrder, StandsBefore}
pub use Rattle.lalrpop_states.specs.conflicts.ErrorTexts.{build_error_text, conflicts_text}
pub use Rattle.lalrpop_states.specs.conflicts.Failures.{IfConflicts}
pub use Rattle.lalrpop_states.specs.conflicts.Failures.{TellsNotLALR1}
pub use Rattle.lalrpop_states.specs.conflicts.NilConflicts.{nil_conflict, nil_conflicts, nil_shift_conflicts}
pub use Rattle.lalrpop_states.specs.conflicts.StateConflicts.{conflicts_on_bit, conflicts_on_place, later_conflicts, meet, reduce_conflict, reduce_conflicts, share}
pub use Rattle.lalrpop_states.specs.conflicts.StateConflicts.{shift_conflict, shift_conflicts, state_conflicts}
pub use Rattle.lr1_theory.specs.construction.States.{AreBuiltBy, Extends, HasTransition, IsBuilt, IsBuiltBy, IsBuiltOfBy, IsLedTo, ItemsLeadTo, LeadsToAdded, item_at_start}
pub use Rattle.lr1_theory.specs.construction.States.{state_entries}
pub use Rattle.lalrpop_states.specs.construction.Transitions.{AddsKernels}
pub use Rattle.lalrpop_states.specs.construction.Transitions.{AreEdges, AreMoves, Groups, HasNoGroup, IsBehind, IsBehindOne, IsMoveAdded}
pub use Rattle.lalrpop_states.specs.construction.Transitions.{AreEdgesListed, AreTransitions, Entries, HasEntry, IsEntryAdded, GroupLeadsTo, edge_entries, list_entries}
pub use Rattle.lalrpop_states.specs.construction.Transitions.{Shifts, ShiftsAscend, reductions_of, seen_reduction, shifted}
pub use Rattle.lalrpop_grammar.specs.first.First.{IsFirstSet, IsFirstSetBefore}
pub use Rattle.lalrpop_grammar.specs.first.FirstSets.{AreFirstSets, FirstBy, NullableBy}
pub use Rattle.lalrpop_states.specs.grammars.Ascending.{Ascend, Precedes, production_order}
pub use Rattle.lalrpop_grammar.specs.grammars.Augmented.{IsAugmented}
pub use Rattle.lalrpop_grammar.specs.grammars.ExactNames.{name_exact, same_production}
pub use Rattle.lalrpop_grammar.specs.grammars.Grammar.{Derives, IsBeginning, IsFirst, IsNullable, IsOnNoRightSide, IsSentence, as_it_is, replace, terminal_symbols}
pub use Rattle.lalrpop_grammar.specs.grammars.Marks.{inline_mark}
pub use Rattle.lalrpop_grammar.specs.grammars.Names.{nonterminal_text, production_text, symbol_text, symbols_text, terminal_text, token_text}
pub use Rattle.lalrpop_grammar.specs.grammars.NewStart.{HasNewStart, IsEntryOf, IsRefusedStart, IsUnused, start_action, start_production, underscored}
pub use Rattle.lalrpop_grammar.specs.grammars.TerminalPlaces.{AreTerminalPlaces, HasPlaces, IsIndexed, place_in}
pub use Rattle.lalrpop_grammar.specs.grammars.Tokens.{FitsTokens, HasToken, IsBitOf, IsKnown, IsTerminal, seen, token_of}
pub use Rattle.lalrpop_grammar.specs.grammars.WellFormed.{AreWellFormedEntries, HasKnownTerminals, IsWellFormed, IsWellFormedEntry, IsWellFormedProduction, Rules}
pub use Rattle.lalrpop_grammar.specs.grammars.WellFormed.{listed_productions, name_cmp, productions, productions_of, rules_of}
pub use Rattle.lalrpop_grammar.specs.lanes.Lanes.{AreLr0, HoldLalrTokens, HoldLaneTokens, IsLaneSuccessor, IsLaneToken, IsLaneTokenAt, IsTracedTo, LeadsBack, back}
pub use Rattle.lalrpop_grammar.specs.lanes.Lanes.{behind_parent, itself, of_start, to_parent}
pub use Rattle.lalrpop_collections.specs.lists.Bits.{Bits, IsRising, bits_of, has, has-at, has-bits_of, has-join, has-no_bits, has-place}
pub use Rattle.lalrpop_collections.specs.lists.Bits.{has-rising, has-with_bit, join, join_twice, new_bit, no_bits, rising, same_bits, with_bit}
pub use Rattle.lalrpop_collections.specs.lists.CheckSets.{HaveSame}
pub use Rattle.lalrpop_collections.specs.lists.Counts.{IsBelow, count, one_if}
pub use Rattle.lalrpop_collections.specs.lists.Each.{EachBelow, EachEntry, EachItem, Ordered}
pub use Rattle.lalrpop_collections.specs.lists.Entries.{Adds, AllBelow, Grows, IsFound, IsFoundWith, IsJoinedAt, IsPushedAt, burden, readings}
pub use Rattle.lalrpop_collections.specs.lists.Exact.{Exactly, both, list_exact}
pub use Rattle.lalrpop_collections.specs.lists.Multimaps.{AreSame, IsCollectionOf, PushesAll, PushesAt, SameAt, at_itself, collection_at, values_at}
pub use Rattle.lalrpop_collections.specs.lists.Partitions.{ArePlaces, fails, new_place, parted, parted_place, rank}
pub use Rattle.lalrpop_collections.specs.lists.Places.{AllDiffer, DifferBelow, IsFirstRepeat}
pub use Rattle.lalrpop_collections.specs.lists.Queues.{HasWaitingMarks, Waiting, waits}
pub use Rattle.lalrpop_collections.specs.lists.Spreading.{HoldsBit, IsSpread, edge_ends, held, sent_on, set_at}
pub use Rattle.lalrpop_collections.specs.lists.Ties.{Ties}
pub use Rattle.lalrpop_collections.specs.lists.Walks.{AllWait, Visits}
pub use Rattle.lalrpop_numbers.specs.numbers.Numbering.{AddsStart, AddsThose, AreAllExpansions, AreEmpty, AreNumbersBehind, IsNumberOf, IsStartFrom, IsStartOf}
pub use Rattle.lalrpop_numbers.specs.numbers.Numbering.{all_dots, lists_of, with_dots}
pub use Rattle.lalrpop_numbers.specs.numbers.Numbers.{AreAllNumbered, AreBehindDots, AreExpansions, AreGroupsOf, AreItemsOf, AreNumbered, AreNumbers, IsNumberBehind}
pub use Rattle.lalrpop_numbers.specs.numbers.Numbers.{MovesToNext, NumberedGroups, NumbersAscend, SymbolsAscend, dotted_at, groups_by, item_by, items_by, kernels_by}
pub use Rattle.lalrpop_numbers.specs.numbers.Numbers.{numbered_exact, symbol_at, symbol_order}
pub use Rattle.lalrpop_numbers.specs.numbers.Suffixes.{AreSuffixes, HasSuffix, IsSuffix, IsSuffixOf}
pub use Rattle.lalrpop_grammar.specs.parsing.Laws.{AreCanonicalWith, DifferInReductions}
pub use Rattle.lalrpop_grammar.specs.parsing.Runs.{Configuration, Ends, Goes, HasOutcome, IsFirstWrong, IsParse, IsPromptRefusal, IsRightNext, Limit, Move, Outcome}
pub use Rattle.lalrpop_grammar.specs.parsing.Runs.{Parsed, Reaches, Refused, Stands, at_end, at_terminal, before_all, begin, behind_shift, cut_off, further, goes_on, here}
pub use Rattle.lalrpop_grammar.specs.parsing.Runs.{move, moves_on, next_token, other_end, parsed, received, reduced, reduces, reduction_on, shifts_or, stuck}
pub use Rattle.lalrpop_grammar.specs.parsing.Trees.{AreOfGrammar, IsNode, IsParseTree, Leaf, Node, Tree, Trees, beside, leaves, no_trees, nodes, root, roots, trees_of}
pub use Rattle.lalrpop_grammar.specs.parsing.Validity.{Action, HaveSameItems, HaveSameTokens, IsAwaited, IsLALR1, IsLR1, IsLalrAction, IsLalrToken, IsLive, IsValidAction}
pub use Rattle.lalrpop_grammar.specs.parsing.Validity.{Reduce, Shift, Valid, ValidToken, at_start, begins_behind, expands, kept, passed_on, shifts, starts}
pub use Rattle.lr1_theory.specs.renumbering.Moved.{AreMoved, GrowsBy, and_one}
pub use Rattle.lr1_theory.specs.renumbering.Renumbered.{AreRenumbered, IsRenumberedState, KeepsOrder, number_in, retargeted, retargeted_all, stands_first}
pub use Rattle.lalrpop_grammar.specs.renumbering.Renumbering.{HasGoto, IsRenumbering, PutsGotosFirst, renumbered}
pub use Rattle.lalrpop_states.specs.states.ActionEntries.{ReduceBy, ShiftTo, TableEntry, action_on, shift_of, shift_or, table_entry}
pub use Rattle.lalrpop_states.specs.states.CheckStates.{AreRightStates, IsRightItem, IsRightState, IsRightTarget, IsTarget, LeadsBy, LeadsFrom, LeadsOn, Lists}
pub use Rattle.lalrpop_states.specs.states.CheckStates.{finished}
pub use Rattle.lalrpop_states.specs.states.Coherent.{AreCoherent, AreFinished, HasItem, IsAt, IsCoherentEdge, IsCoherentState, IsCoherentStep, IsShiftedFrom, StartsAtZero}
pub use Rattle.lalrpop_states.specs.states.Coherent.{symbol_of_ref}
pub use Rattle.lalrpop_states.specs.states.Contents.{contents, contents_at, contents_in, contents_of, has_at, holds_token, no_contents, number_of}
pub use Rattle.lalrpop_states.specs.states.Contents.{reduced_productions, reduction_of}
pub use Rattle.lalrpop_grammar.specs.states.Copies.{IsCopying}
pub use Rattle.lalrpop_states.specs.states.Edges.{StateEdge, goto_edge, seen_edge, shift_edge, state_edges}
pub use Rattle.lalrpop_states.specs.states.Items.{Dotted, dots, dotted_exact, dotted_of, with_dot}
pub use Rattle.lalrpop_collections.specs.states.Kernels.{AddsOnce, IsNumbering, Kernels, by_number, key_numbered, keys_below}
pub use Rattle.lalrpop_grammar.specs.states.States.{Allows, AreFaithful, CanStandNext, Contents, HasNoRepeat, HasRightItems, HaveRightItems, IsBehindDot, IsRightFor}
pub use Rattle.lalrpop_grammar.specs.states.States.{LeadsOverDots, ReducesFinished, leads, onward, state_after, state_from}
pub use Rattle.lalrpop_states.specs.states.ViewFolds.{longer_of, longest_from, shorter_of, shortest_from}
pub use Rattle.lalrpop_states.specs.states.Views.{AreAll, IsFirstShortest, IsFirstShortestOrEmpty, IsLastLongest, has_moved, moved, nonterminal_of, prefix_of, rest_of}
