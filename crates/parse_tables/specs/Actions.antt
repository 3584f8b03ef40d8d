-- The entries of the action table that actions by number mean.
use Rattle.std.specs.Prelude.{List, slice_get, Option, None, Some, option_map}
use Rattle.lalrpop_base.specs.Words.{ReduceBy, ShiftTo, TableEntry}
use Rattle.lalrpop_grammar.specs.declared.repr.Production.{Production}
use Rattle.parse_tables.specs.declared.table.TableAction.{TableAction}
use Rattle.parse_tables.specs.declared.table.TableAction.TheVariants.{None as NoAction, Shift, Reduce}

-- the entry that an action by number means
abbrev pub entry_by : List Production → TableAction → Option TableEntry
entry_by productions NoAction = None
entry_by productions (Shift state) = Some (ShiftTo state)
entry_by productions (Reduce number) = option_map ReduceBy (slice_get productions number)
