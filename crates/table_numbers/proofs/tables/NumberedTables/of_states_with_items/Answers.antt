use Rattle.std.proofs.Common.{subst}
use Rattle.lalrpop_base.specs.Words.{contents}
use Rattle.table_numbers.specs.Items.{HaveItemsOf}
use Rattle.table_numbers.specs.Lists.{Lists}
use Rattle.table_numbers.specs.Numbers.{AreTablesOf}
use Rattle.table_numbers.proofs.tables.NumberedTables.of_states_with_items.Goals as goal

pub returns-clause-tables : goal.returns-clause-tables
returns-clause-tables c = subst (λ (x : Lists). AreTablesOf x c.in_ok-tables.tables (contents x.terminals c.args.states.now)) c.in_ok-names.ensures c.in_ok-tables.ensures.tables

pub returns-clause-items : goal.returns-clause-items
returns-clause-items c = subst (λ (x : Lists). HaveItemsOf x c.in_ok-tables.tables c.args.states.now) c.in_ok-names.ensures c.in_ok-tables.ensures.items
