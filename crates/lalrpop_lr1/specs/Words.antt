-- The definitions that the contracts of this crate name, each with the file that has it.
pub use Rattle.lalrpop_ambiguity.specs.derivations.Derivations.{IsDerivation}
pub use Rattle.lalrpop_ambiguity.specs.witnesses.Witnesses.{DerivationsHaveTrees, DeriveSome, HasNoTwins, HasTwoDerivations, HaveOneRoot, IsAmbiguous, IsWitness, WitnessesHaveSentences}
pub use Rattle.lalrpop_ambiguity.specs.witnesses.Searches.{IfFound}
pub use Rattle.lalrpop_explain.specs.explained.ExplainedConflicts.{AddsIfShifting, AreExplained, AreExplainedBy, AreExplainedShifts, IsExplained, IsExplainedAlone}
pub use Rattle.lalrpop_explain.specs.explained.ExplainedConflicts.{IsExplainedReduction, IsExplainedShift}
pub use Rattle.lalrpop_explain.specs.explained.FirstExamples.{AreExamplesOf, AreFirst, AreFirstMeeting, AreReduceExamples, AreShiftExamples, GoesOnWith}
pub use Rattle.lalrpop_explain.specs.explained.KeptGraphs.{AreKept, IsKeptGraph, IsLike, IsReductionGraph}
pub use Rattle.lalrpop_explain.specs.explained.OwnErrors.{AreOwnConflicts, AreOwnStates, IsOwnConflict, IsOwnError}
pub use Rattle.lalrpop_inline.specs.inlining.InlineChoices.{prefixed, choices, completed, extended, followed, inlined, is_named, laid_out, mentions, part_symbols, parts}
pub use Rattle.lalrpop_inline.specs.inlining.InlineMeetings.{AreMarkedAmong, ComesBack, ComesBackFrom, GoesPast, IsComeBackTo, IsEntered, IsInside, IsMetName, IsNewest}
pub use Rattle.lalrpop_inline.specs.inlining.InlineMeetings.{IsPassed, ComesBackToAllOf, Leaves, NamesBy, through, here, inside, later, mentions_back, no_more, past_over, passing}
pub use Rattle.lalrpop_inline.specs.inlining.InlineMeetings.{with_next}
pub use Rattle.lalrpop_inline.specs.inlining.InlineOrder.{HasSpan, IsCycleOf, IsInlineOrder, IsMarked, IsMarkedEntry, IsOnRing, Leads, Mentions, more, one}
pub use Rattle.lalrpop_inline.specs.inlining.InlineRefusals.{IsPastLast}
pub use Rattle.lalrpop_inline.specs.inlining.InlineSteps.{IsEntryReplaced, Made, View, alternatives_in, choice_defn, choice_production, chosen, named_entry}
pub use Rattle.lalrpop_grammar.specs.grammars.Entries.{Entry}
pub use Rattle.lalrpop_inline.specs.inlining.InlineSteps.{entry_with, fallible_of, in_front, inlined_by, inlined_of, is_fallible, is_fallible_part, productions_of_entry, made_of}
pub use Rattle.lalrpop_inline.specs.inlining.InlineSteps.{productions_of_view, replaced, replaced_all, replaced_entries, view_of}
pub use Rattle.lalrpop_inline.specs.inlining.InlineUsers.{HasUsersOfMarked, KeepsUsers, first_replaced, replaced_at, replaced_places}
pub use Rattle.lalrpop_grammar.specs.grammars.Entries.{users_at}
pub use Rattle.lalrpop_grammar.specs.grammars.Entries.{listed_names}
pub use Rattle.lalrpop_inline.specs.inlining.InlineWalks.{AreFrames, HasFrames, HasNext, IsFrame, IsWalk, IsWalked, LeadTo, mentioned_in, nonterminal_names, names_on}
pub use Rattle.lalrpop_inline.specs.inlining.Inlined.{HasTooMany, IsInlined, IsLaidOut, IsRefusalOf}
pub use Rattle.lalrpop_report.specs.reports.Report.{ascending, conflicts_in, error_report, failure_report, kind_line, next_state, report_text, state_number, tables_report}
pub use Rattle.lalrpop_report.specs.reports.ReportLines.{goto_line, item_lines, longest, production_line, reduction_lines, shift_line, tokens_in}
pub use Rattle.lalrpop_report.specs.reports.ReportLines.{tokens_line, tokens_text}
pub use Rattle.lalrpop_report.specs.reports.ReportPlaces.{ArePlacesOf, places_of}
pub use Rattle.lalrpop_report.specs.reports.ReportStates.{block_at, conflict_block, items_block, reductions_block}
pub use Rattle.lalrpop_parser.specs.runs.Answers.{ReportsOutcome, IsFailure, IsPartialAnswer}
pub use Rattle.lalrpop_lr1.specs.runs.AnyStart.{Augmented, IsAboveOld, IsOutcomeBelow, IsOutcomeByTablesAbove, IsTreeBelow, TellsTreesBelow, productions_but, seen_over}
pub use Rattle.lalrpop_parser.specs.runs.FaithfulAnswers.{AnswersTrees, ForEachCanonical, ForEachGrammar, HasEnough, HasOneTree, IfLimit, IfRefused, IsCutOff, IsCutOffByTables}
pub use Rattle.lalrpop_parser.specs.runs.FaithfulAnswers.{IsLimit, IsOutcomeFor, IsTreeWithin, StepsAreRight, TakesBeginning}
pub use Rattle.lalrpop_lr1.specs.runs.Headline.{IsAccepted, IsOutcomeByTables}
pub use Rattle.lalrpop_parser.specs.runs.Machines.{CanPop, HasRead, IsInitialMachine, IsHalted, IsProgress, IsShifted, IsSpent, IsStack, IsStacked, bottom, configuration}
pub use Rattle.lalrpop_parser.specs.runs.Machines.{numbers, reduction_move, shift_on, trees_on}
pub use Rattle.lalrpop_lr1.specs.runs.ParseAnswers.{HadTables, HadTablesWhere, IfParseConflicts, IfParseLimit, IfRefusedAt, ReportsParseOutcome, TellsTrees, parse_result}
pub use Rattle.lalrpop_parser.specs.runs.Reading.{HasPartialOutcome, PartialOutcome, Reads, Stack, Stop, StopsReading, all_read, before, cut_off, early_end, stopped}
pub use Rattle.lalrpop_parser.specs.runs.Reading.{stuck}
pub use Rattle.lalrpop_parser.specs.runs.Steps.{HasOutcomeFrom, IsParsedIn, cut_off_from, other_end_from, parsed_from, stuck_from}
pub use Rattle.lalrpop_traces.specs.traces.Alike.{AreAlike, BeganIn}
pub use Rattle.lalrpop_traces.specs.traces.ExampleTexts.{after_mark, before_mark, example_text}
pub use Rattle.lalrpop_traces.specs.traces.Examples.{CarryRightSides, IsExampleOf, IsRightSide, ReduceAll, ReduceAround, SpellsDerivation, between, cursor_list}
pub use Rattle.lalrpop_traces.specs.traces.Examples.{edge_cursor, edge_of, following, nonterminal_of_node, path_of, example_place, place_of, edge_prefix, prefixes, example_reductions, reduced_at, spelled}
pub use Rattle.lalrpop_traces.specs.traces.Examples.{edge_suffix, suffixes}
pub use Rattle.lalrpop_traces.specs.traces.Meetings.{AddsInOrder, AreMet, AreNamed, HasMet, IsInsertedPair, IsStep, WalksOn, asked, duties_left, duties_of}
pub use Rattle.lalrpop_traces.specs.traces.Meetings.{duty_steps, item_steps, meeting_cmp, meetings, names_in, unmet, work}
pub use Rattle.lalrpop_traces.specs.traces.Paths.{GoesBack, GoesOnTo, OpensTo, IsPath, are_one, comes_again, is_item, item_node, left_over, over, passed, paths, source, source_of, target}
pub use Rattle.lalrpop_traces.specs.traces.Paths.{target_node}
pub use Rattle.lalrpop_traces.specs.traces.TraceGraphs.{AddsBoth, AddsEdge, AddsNoOther, AreKnownEdges, Graph, HaveEnds, IsEndpoint, IsFrom, IsGraph, IsKept, IsKnownLabel}
pub use Rattle.lalrpop_traces.specs.traces.TraceGraphs.{KeepPlaces, PlainEdge, SameLabels, node_count, edge_numbers_to_source, numbers_to, numbers_to_source, places_from, plain}
pub use Rattle.lalrpop_traces.specs.traces.TraceGraphs.{plain_edge, plain_edges}
pub use Rattle.lalrpop_traces.specs.traces.TraceOrder.{AddsInTurn, AreSources, Duty, IsInOrder, Walks, all_added, come_to, come_to_each, ends, ends_of, items_at, known}
pub use Rattle.lalrpop_traces.specs.traces.TraceOrder.{left_out, meets, onward_edge, onward_edges, passes, put_behind, stop_edge, take_up, take_up_each}
pub use Rattle.lalrpop_traces.specs.traces.Traces.{Backtrace, GivesEdge, GoesOn, HasOwnProductions, HasOwnTerminals, IsMet, IsSource, IsTraceOf, IsTraced, Meeting, StandsIn}
pub use Rattle.lalrpop_traces.specs.traces.Traces.{Takes, begins, dot_edge, dotted, first, given, itself, onward, own_edge, reduction_traced, shift_traced}
pub use Rattle.lalrpop_traces.specs.traces.Walks.{GivesNext, GivesNextMeeting, GoesTo, HasNoToken, HasSkipped, LeavesOut, IsEnded, IsExhausted, IsOfFirst, IsOfFirstMeeting, IsSameFilter, Meets, NoneMeets}
pub use Rattle.lalrpop_traces.specs.traces.Walks.{and_behind, bound, bound_of, edge_weight, frames, load, load_of, numbers_at, paths_over, remaining, steps, to_come}
pub use Rattle.lalrpop_traces.specs.traces.Walks.{total, weight}
pub use Rattle.lalrpop_parser.specs.trees.EqualTrees.{equal_tree, tree_exact, tree_same}
pub use Rattle.lalrpop_parser.specs.trees.ParseTrees.{separator_text, tree_nodes, tree_of, tree_step, tree_text, trees_text}
pub use Rattle.lalrpop_parser.specs.trees.TreeSteps.{GivesStep, Step, around_of, enters, forest_of, is_entering, leaves_node, meets_leaf, open_node, step_of, step_text}
pub use Rattle.lalrpop_parser.specs.trees.TreeSteps.{steps_left, steps_of, steps_over, steps_text, tree_by, tree_within}
