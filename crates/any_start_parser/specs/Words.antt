-- The definitions that the contracts of this crate name, each with the file that has it.
pub use Rattle.any_start_parser.specs.Augmented.{ForEachAugmented, IsOf, IsOnlyOf, IsTreeBelow}
pub use Rattle.any_start_parser.specs.Below.{TakesBelow, TakesUnless}
pub use Rattle.any_start_parser.specs.Expected.{AreExpectedFromAny, MayComeFromAny}
pub use Rattle.any_start_parser.specs.Laws.{AugmentedRightNext, ExpectedFromAny, TokensFromAny}
pub use Rattle.any_start_parser.specs.Lists.{HasParsedFromAny, HasRefusedEndFromAny, HasRefusedLastFromAny, IsParsedFromAny, IsRefusalFromAny, IsRefusedFromAny}
pub use Rattle.any_start_parser.specs.Nodes.{HasBuiltFromAny}
