-- The list of the definitions that this crate's contracts use, with the place of each.
pub use Rattle.lalrpop_numbers.specs.numbers.Numbering.{AddsStart, AddsThose, AreAllExpansions, AreEmpty, AreNumbersBehind, IsNumberOf, IsStartFrom, IsStartOf}
pub use Rattle.lalrpop_numbers.specs.numbers.Numbering.{all_dots, lists_of, with_dots}
pub use Rattle.lalrpop_numbers.specs.numbers.Numbers.{AreAllNumbered, AreBehindDots, AreExpansions, AreGroupsOf, AreItemsOf, AreNumbered, AreNumbers, IsNumberBehind}
pub use Rattle.lalrpop_numbers.specs.numbers.Numbers.{MovesToNext, NumberedGroups, NumbersAscend, SymbolsAscend, dotted_at, groups_by, item_by, items_by, kernels_by}
pub use Rattle.lalrpop_numbers.specs.numbers.Numbers.{numbered_exact, symbol_at, symbol_order}
pub use Rattle.lalrpop_numbers.specs.numbers.Suffixes.{AreSuffixes, HasSuffix, IsSuffix, IsSuffixOf}
