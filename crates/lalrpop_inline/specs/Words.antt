-- The definitions that the contracts of this crate name, each with the file that has it.
pub use Rattle.lalrpop_inline.specs.inlining.InlineChoices.{prefixed, choices, completed, extended, followed, inlined, is_named, laid_out, mentions, part_symbols, parts}
pub use Rattle.lalrpop_inline.specs.inlining.InlineMeetings.{AreMarkedAmong, ComesBack, ComesBackFrom, GoesPast, IsComeBackTo, IsEntered, IsInside, IsMetName, IsNewest}
pub use Rattle.lalrpop_inline.specs.inlining.InlineMeetings.{IsPassed, ComesBackToAllOf, Leaves, NamesBy, through, here, inside, later, mentions_back, no_more, past_over, passing}
pub use Rattle.lalrpop_inline.specs.inlining.InlineMeetings.{with_next}
pub use Rattle.lalrpop_inline.specs.inlining.InlineOrder.{HasSpan, IsCycleOf, IsInlineOrder, IsMarked, IsMarkedEntry, IsOnRing, Leads, Mentions, more, one}
pub use Rattle.lalrpop_inline.specs.inlining.InlineRefusals.{IsPastLast}
pub use Rattle.lalrpop_inline.specs.inlining.InlineSteps.{IsEntryReplaced, Made, View, alternatives_in, choice_defn, choice_production, chosen, named_entry}
pub use Rattle.lalrpop_grammar.specs.grammars.Entries.{Entry}
pub use Rattle.lalrpop_inline.specs.inlining.InlineSteps.{entry_with, fallible_of, in_front, inlined_by, inlined_of, is_fallible, is_fallible_part, productions_of_entry, made_of}
pub use Rattle.lalrpop_inline.specs.inlining.InlineSteps.{productions_of_view, replaced, replaced_all, replaced_entries, view_of}
pub use Rattle.lalrpop_inline.specs.inlining.InlineUsers.{HasUsersOfMarked, KeepsUsers, first_replaced, replaced_at, replaced_places}
pub use Rattle.lalrpop_grammar.specs.grammars.Entries.{users_at}
pub use Rattle.lalrpop_grammar.specs.grammars.Entries.{listed_names}
pub use Rattle.lalrpop_inline.specs.inlining.InlineWalks.{AreFrames, HasFrames, HasNext, IsFrame, IsWalk, IsWalked, LeadTo, mentioned_in, nonterminal_names, names_on}
pub use Rattle.lalrpop_inline.specs.inlining.Inlined.{HasTooMany, IsInlined, IsLaidOut, IsRefusalOf}
