-- The definitions that the contracts of this crate use, by the modules that have them.
pub use Rattle.lalrpop_construction.specs.canonical.CanonicalAnswers.{AreCanonicalTables, AreCanonicalTablesOrCount, FailsByConflicts, HasCanonicalConflicts, IsConflictCount, LacksTables, MatchTablesOrCount, up_to_greatest}
pub use Rattle.lalrpop_construction.specs.closures.EpsilonMoves.{AreItemsAtStart, AreEpsilonMoves, IsItemAtStart}
pub use Rattle.lalrpop_construction.specs.closures.Propagation.{AllFit, HasTokensThatFollow, IsExpansionWith, IsNamed, IsPropagated, IsPropagation, MayFollow, MayFollowIn, NonterminalTokens, Propagates, StandsBehind}
pub use Rattle.lalrpop_construction.specs.closures.Propagation.{StandsBehindOne, expansions_in, vec_items_at, numbered_of, parts_in, unfolded, with_tokens}
pub use Rattle.lalrpop_construction.specs.conflicts.CanonicalConflicts.{AreCanonicalConflictsOf, AreConflictsOfFailure, ShiftsLead, StatesAscend, listed_of}
pub use Rattle.lalrpop_construction.specs.conflicts.ListedConflicts.{conflict_of, conflicts_of}
pub use Rattle.lalrpop_construction.specs.construction.Building.{AreMadeSoFar, Building}
pub use Rattle.lalrpop_construction.specs.construction.EarlyStop.{AreEnough, AreMadeFor, AreMadeUntilBy, ArePartlyBuilt, ArePartlyBuiltBy, AreSomeCanonicalStates}
pub use Rattle.lalrpop_construction.specs.construction.EarlyStop.{AreSomeLr0States, FailsAfterLr0, GoesOnBeforeLast, HasDotted, HaveSameContents, IsLr0StateFor, IsStateFor}
pub use Rattle.lalrpop_construction.specs.construction.EarlyStop.{FailsAfter}
pub use Rattle.lalrpop_construction.specs.construction.EarlyStop.{ListFewer, Lr0StopsAfter, StopsAfter, StopsFor}
pub use Rattle.lalrpop_construction.specs.construction.Ready.{IsReadyToBuild}
pub use Rattle.lalrpop_construction.specs.construction.Results.{AreStatesFor, AreStatesOf, AreTables, AreTablesFor, Construction, FailsBy, FailsFor}
pub use Rattle.lalrpop_construction.specs.construction.Results.{Settings, canonical_of}
pub use Rattle.lalrpop_construction.specs.construction.Results.{construction_of, lr0_of}
pub use Rattle.lalrpop_construction.specs.states.Canonical.{AreCanonicalStates, AreOrderedCanonical, FitReductions, is_with_token, tokens_of}
pub use Rattle.lalrpop_construction.specs.states.Lr0.{AreLr0States, HasLr0States, HaveNoNilConflict, ListsNilConflicts, lr0_contents, on_any}
pub use Rattle.lalrpop_construction.specs.states.SamePlaces.{HasSamePlace, HaveSamePlaces}
pub use Rattle.lalrpop_construction.specs.states.SamePlaces.{by, dot_of}
pub use Rattle.lalrpop_construction.specs.states.SamePlaces.{places_in}
