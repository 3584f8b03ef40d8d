-- The definitions that the contracts of this crate name, each with its file.
pub use Rattle.lalrpop_explain.specs.explained.ExplainedConflicts.{AddsIfShifting, AreExplained, AreExplainedBy, AreExplainedShifts, IsExplained, IsExplainedAlone}
pub use Rattle.lalrpop_explain.specs.explained.ExplainedConflicts.{IsExplainedReduction, IsExplainedShift}
pub use Rattle.lalrpop_explain.specs.explained.FirstExamples.{AreExamplesOf, AreFirst, AreFirstMeeting, AreReduceExamples, AreShiftExamples, GoesOnWith}
pub use Rattle.lalrpop_explain.specs.explained.KeptGraphs.{AreKept, IsKeptGraph, IsLike, IsReductionGraph}
pub use Rattle.lalrpop_explain.specs.explained.OwnErrors.{AreOwnConflicts, AreOwnStates, IsOwnConflict, IsOwnError}
