-- Parse tables, and of which states they are.
use Rattle.lalrpop_base.specs.Words.{Contents}
use Rattle.std.specs.Prelude.{ℕ}
use Rattle.parse_tables.specs.StateRows.{HaveActions, HaveGotos}
use Rattle.parse_tables.specs.declared.table.ParseTable.{ParseTable}

-- the table has the actions and the gotos of states, each with its number
pub record IsTableOf (t : ParseTable) (states : ℕ → Contents) : Type 0 where
  pub actions : HaveActions t.terminals t.productions states t.actions
  pub gotos : HaveGotos t.nonterminals states t.gotos
