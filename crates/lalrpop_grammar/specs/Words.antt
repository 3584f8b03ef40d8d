-- The list of the definitions that this crate's contracts use, with the place of each.
pub use Rattle.lalrpop_grammar.specs.closures.Closures.{AreCanonical, AreChecked, AreClosed, InClosure, InTokenClosure, IsAtStart, IsAtStartWith, IsCarried, IsMoved}
pub use Rattle.lalrpop_grammar.specs.closures.Closures.{IsMovedWith, IsReached, KernelsDiffer, TokenKernelsDiffer, at_zero, begins_rest, eof_at_start, expanded}
pub use Rattle.lalrpop_grammar.specs.closures.Closures.{first_of_rest, in_kernel, inherits, items_of, over, through_rest, with_token}
pub use Rattle.lalrpop_grammar.specs.collapse.Collapse.{HoldsInGroup, IsCollapse, LeadsInGroup}
pub use Rattle.lalrpop_grammar.specs.conflicts.ConflictLists.{IsReduceConflict, IsShiftConflict, LaterPart, ReduceParts, ShiftPart, ShiftParts, apart, in_conflict}
pub use Rattle.lalrpop_grammar.specs.conflicts.ConflictLists.{no_later, no_more, no_reductions, no_shifts, reduce_first, shares_none, shift_first, with_later}
pub use Rattle.lalrpop_grammar.specs.conflicts.Conflicts.{ActionPrecedes, AreCanonicalConflicts, AreConflicts, AreConflictsOf, ConflictContents, HasNoCanonicalConflict}
pub use Rattle.lalrpop_grammar.specs.conflicts.Conflicts.{IsConflict, IsInConflict, IsLess, IsOrder, ReducesInOrder, StandsBefore}
pub use Rattle.lalrpop_grammar.specs.first.First.{HoldFirstSets, IsFirstJoined, IsFirstOfName, IsFirstSet, IsFirstSetBefore}
pub use Rattle.lalrpop_grammar.specs.first.FirstGraphs.{BeginsWithName, BeginsWithTerminal, IsAdded, IsFlagged, IsGraph, IsSized}
pub use Rattle.lalrpop_grammar.specs.first.FirstNumbers.{place}
pub use Rattle.lalrpop_grammar.specs.first.FirstRests.{AreRests, IsListedOrPending, IsPassed, IsReleased, Pending, Rest, listed_rest, pending_at, pending_rests, pending_with, right_side}
pub use Rattle.lalrpop_grammar.specs.first.FirstSets.{AreFirstSets, FirstBy, NullableBy}
pub use Rattle.lalrpop_grammar.specs.grammars.Augmented.{IsAugmented}
pub use Rattle.lalrpop_grammar.specs.grammars.ExactNames.{name_exact, same_production}
pub use Rattle.lalrpop_grammar.specs.grammars.Grammar.{Derives, IsBeginning, IsFirst, IsNullable, IsOnNoRightSide, IsSentence, as_it_is, replace, terminal_symbols}
pub use Rattle.lalrpop_grammar.specs.grammars.Marks.{inline_mark}
pub use Rattle.lalrpop_grammar.specs.grammars.Names.{nonterminal_text, production_text, symbol_text, symbols_text, terminal_text, token_text}
pub use Rattle.lalrpop_grammar.specs.grammars.NewStart.{HasNewStart, IsEntryOf, IsRefusedStart, IsUnused, start_action, start_production, underscored}
pub use Rattle.lalrpop_grammar.specs.grammars.TerminalPlaces.{AreTerminalPlaces, HasPlaces, IsIndexed, place_in}
pub use Rattle.lalrpop_grammar.specs.grammars.Tokens.{FitsTokens, HasToken, IsBitOf, IsKnown, IsTerminal, seen, token_of}
pub use Rattle.lalrpop_grammar.specs.grammars.WellFormed.{AreWellFormedEntries, HasKnownTerminals, IsWellFormed, IsWellFormedEntry, IsWellFormedProduction, Rules}
pub use Rattle.lalrpop_grammar.specs.grammars.WellFormed.{listed_productions, name_cmp, productions, productions_of, rules_of}
pub use Rattle.lalrpop_grammar.specs.lanes.Lanes.{AreLr0, HoldLalrTokens, HoldLaneTokens, IsLaneSuccessor, IsLaneToken, IsLaneTokenAt, IsTracedTo, LeadsBack, back}
pub use Rattle.lalrpop_grammar.specs.lanes.Lanes.{behind_parent, itself, of_start, to_parent}
pub use Rattle.lalrpop_grammar.specs.parsing.Laws.{AreCanonicalWith, DifferInReductions}
pub use Rattle.lalrpop_grammar.specs.parsing.Runs.{Configuration, Ends, Goes, HasOutcome, IsFirstWrong, IsParse, IsPromptRefusal, IsRightNext, Limit, Move, Outcome}
pub use Rattle.lalrpop_grammar.specs.parsing.Runs.{Parsed, Reaches, Refused, Stands, at_end, at_terminal, before_all, begin, behind_shift, cut_off, further, goes_on, here}
pub use Rattle.lalrpop_grammar.specs.parsing.Runs.{move, moves_on, next_token, other_end, parsed, received, reduced, reduces, reduction_on, shifts_or, stuck}
pub use Rattle.lalrpop_grammar.specs.parsing.Trees.{AreOfGrammar, IsNode, IsParseTree, Leaf, Node, Tree, Trees, beside, leaves, no_trees, nodes, root, roots, trees_of}
pub use Rattle.lalrpop_grammar.specs.parsing.Validity.{Action, HaveSameItems, HaveSameTokens, IsAwaited, IsLALR1, IsLR1, IsLalrAction, IsLalrToken, IsLive, IsValidAction}
pub use Rattle.lalrpop_grammar.specs.parsing.Validity.{Reduce, Shift, Valid, ValidToken, at_start, begins_behind, expands, kept, passed_on, shifts, starts}
pub use Rattle.lalrpop_grammar.specs.renumbering.Renumbering.{HasGoto, IsRenumbering, PutsGotosFirst, renumbered}
pub use Rattle.lalrpop_grammar.specs.states.Copies.{IsCopying}
pub use Rattle.lalrpop_grammar.specs.states.States.{Allows, AreFaithful, CanStandNext, Contents, HasNoRepeat, HasRightItems, HaveRightItems, IsBehindDot, IsRightFor}
pub use Rattle.lalrpop_grammar.specs.states.States.{LeadsOverDots, ReducesFinished, leads, onward, state_after, state_from}
