-- The definitions that the contracts of this crate name, each with the file that has it.
pub use Rattle.table_numbers.specs.Contents.{contents_if, numbered_contents, numbered_reduction, passes, reduction_on_set, state_contents, target_at}
pub use Rattle.table_numbers.specs.Items.{AreFaithfulWithItems, AreItemsOf, AreListsOf, AreWholeNumbersOf, EachHasItems, EachListIsOf, HaveItemsOf, dotted_if, item_at, item_parts, list_at}
pub use Rattle.table_numbers.specs.Items.{list_if, numbered_dotted, whole_contents}
pub use Rattle.table_numbers.specs.Laws.{FaithfulNumbers, OneTables, WholeNumbers}
pub use Rattle.table_numbers.specs.Layout.{counted_pairs, first_list_place, first_set_place, first_state_place, head_of, item_block, item_numbers, numbers_of, pair_numbers, places_from, set_block}
pub use Rattle.table_numbers.specs.Layout.{state_block}
pub use Rattle.table_numbers.specs.Lists.{AreAbout, Lists, lists_of, named, nonterminals_of, side_of}
pub use Rattle.table_numbers.specs.Made.{AddsTarget, AreMade, HasTargets, IsMade, borrowed}
pub use Rattle.table_numbers.specs.Numbered.{AreNumbered, EachIsNumbered, IsNumbered, Keeps, named_target, reduction_at, reduction_parts}
pub use Rattle.table_numbers.specs.Numbers.{AreFaithfulNumbers, AreNumbersOf, AreTablesOf, with_items}
pub use Rattle.table_numbers.specs.ParseTables.{IsTableOfNumbers}
