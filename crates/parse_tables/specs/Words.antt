-- The definitions that the contracts of this crate name, each with the file that has it.
pub use Rattle.parse_tables.specs.Actions.{entry_by}
pub use Rattle.parse_tables.specs.Cells.{AreColumns, AreOwned, AreOwners, IsFree, IsRowWritten, cell_in, number_in, owned}
pub use Rattle.parse_tables.specs.Codes.{AreSides, IsActionRow, IsGotoRow, entry_of, reduction_entry, target_code, target_of}
pub use Rattle.parse_tables.specs.Rows.{AddsRow, number_at, row_count}
pub use Rattle.parse_tables.specs.StateRows.{HaveActions, HaveGotos}
pub use Rattle.parse_tables.specs.Tables.{IsTableOf}
