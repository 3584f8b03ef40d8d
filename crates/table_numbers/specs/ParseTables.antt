-- Parse tables of numbers.
use Rattle.std.specs.Prelude.{◌≡◌, ℕ, List}
use Rattle.parse_tables.specs.Tables.{IsTableOf}
use Rattle.parse_tables.specs.declared.table.ParseTable.{ParseTable}
use Rattle.table_numbers.specs.Contents.{numbered_contents}
use Rattle.table_numbers.specs.Layout.{numbers_of}
use Rattle.table_numbers.specs.Lists.{AreAbout, Lists}
use Rattle.table_numbers.specs.declared.tables.NumberedTables.{NumberedTables}

-- the parse table has the actions and gotos of the contents that the numbers have
pub record IsTableOfNumbers (lists : Lists) (numbers : List ℕ) (t : ParseTable) : Type 0 where
  pub tables : NumberedTables
  pub laid_out : numbers ≡ numbers_of tables
  pub about : AreAbout lists tables
  pub table : IsTableOf t (numbered_contents lists tables)
