-- The definitions that the contracts of this crate name, each with the file that has it.
pub use Rattle.table_parser.specs.Errors.{IfLimit, IfRefused, IfUnknown, IsUnknown}
pub use Rattle.table_parser.specs.Events.{Event, Reduced, Shifted, starts, width}
pub use Rattle.table_parser.specs.Expected.{AreExpected, AreExpectedAfter, HasReadList, MayComeAfter, MayFollow}
pub use Rattle.table_parser.specs.Lists.{AreTerminals, HasMetUnknown, HasParsedAll, HasPassedLimit, HasPassedLimitAtEnd, HasRefusedEnd, HasRefusedLast, HasRun, IsLimitOf, IsParsed, IsRefusalOf, IsRefused}
pub use Rattle.table_parser.specs.Machines.{IsAt, IsCopyOf, IsFresh, numbers_below, starts_below}
pub use Rattle.table_parser.specs.Runs.{AtEnd, AtTerminal, HasParsed, HasRead, IsCutOff, IsRefusal}
pub use Rattle.table_parser.specs.Steps.{Handles, IsEvent, IsFinal, IsStep, nothing, once_more}
pub use Rattle.table_parser.specs.Values.{IsValueStep}
