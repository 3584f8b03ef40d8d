-- The words of this crate's contracts, by name: where each is defined.
pub use Rattle.lalrpop_traces.specs.traces.Alike.{AreAlike, BeganIn}
pub use Rattle.lalrpop_traces.specs.traces.ExampleTexts.{after_mark, before_mark, example_text}
pub use Rattle.lalrpop_traces.specs.traces.Examples.{CarryRightSides, IsExampleOf, IsRightSide, ReduceAll, ReduceAround, SpellsDerivation, between, cursor_list}
pub use Rattle.lalrpop_traces.specs.traces.Examples.{edge_cursor, edge_of, following, nonterminal_of_node, path_of, example_place, place_of, edge_prefix, prefixes, example_reductions, reduced_at, spelled}
pub use Rattle.lalrpop_traces.specs.traces.Examples.{edge_suffix, suffixes}
pub use Rattle.lalrpop_traces.specs.traces.Meetings.{AddsInOrder, AreMet, AreNamed, HasMet, IsInsertedPair, IsStep, WalksOn, asked, duties_left, duties_of}
pub use Rattle.lalrpop_traces.specs.traces.Meetings.{duty_steps, item_steps, meeting_cmp, meetings, names_in, unmet, work}
pub use Rattle.lalrpop_traces.specs.traces.Paths.{GoesBack, GoesOnTo, OpensTo, IsPath, are_one, comes_again, is_item, item_node, left_over, over, passed, paths, source, source_of, target}
pub use Rattle.lalrpop_traces.specs.traces.Paths.{target_node}
pub use Rattle.lalrpop_traces.specs.traces.TraceGraphs.{AddsBoth, AddsEdge, AddsNoOther, AreKnownEdges, Graph, HaveEnds, IsEndpoint, IsFrom, IsGraph, IsKept, IsKnownLabel}
pub use Rattle.lalrpop_traces.specs.traces.TraceGraphs.{KeepPlaces, PlainEdge, SameLabels, node_count, edge_numbers_to_source, numbers_to, numbers_to_source, places_from, plain}
pub use Rattle.lalrpop_traces.specs.traces.TraceGraphs.{plain_edge, plain_edges}
pub use Rattle.lalrpop_traces.specs.traces.TraceOrder.{AddsInTurn, AreSources, Duty, IsInOrder, Walks, all_added, come_to, come_to_each, ends, ends_of, items_at, known}
pub use Rattle.lalrpop_traces.specs.traces.TraceOrder.{left_out, meets, onward_edge, onward_edges, passes, put_behind, stop_edge, take_up, take_up_each}
pub use Rattle.lalrpop_traces.specs.traces.Traces.{Backtrace, GivesEdge, GoesOn, HasOwnProductions, HasOwnTerminals, IsMet, IsSource, IsTraceOf, IsTraced, Meeting, StandsIn}
pub use Rattle.lalrpop_traces.specs.traces.Traces.{Takes, begins, dot_edge, dotted, first, given, itself, onward, own_edge, reduction_traced, shift_traced}
pub use Rattle.lalrpop_traces.specs.traces.Walks.{GivesNext, GivesNextMeeting, GoesTo, HasNoToken, HasSkipped, LeavesOut, IsEnded, IsExhausted, IsOfFirst, IsOfFirstMeeting, IsSameFilter, Meets, NoneMeets}
pub use Rattle.lalrpop_traces.specs.traces.Walks.{and_behind, bound, bound_of, edge_weight, frames, load, load_of, numbers_at, paths_over, remaining, steps, to_come}
pub use Rattle.lalrpop_traces.specs.traces.Walks.{total, weight}
