use Rattle.std.proofs.Common.{subst}
use Rattle.lalrpop_base.specs.Words.{contents}
use Rattle.table_numbers.specs.Lists.{Lists}
use Rattle.table_numbers.specs.Numbers.{AreTablesOf}
use Rattle.table_numbers.proofs.tables.NumberedTables.of_states.Goals as goal

pub returns-clause-tables : goal.returns-clause-tables
returns-clause-tables c = subst (λ (x : Lists). AreTablesOf x c.in_ok-tables.tables (contents x.terminals c.args.states.now)) c.in_ok-names.ensures c.in_ok-tables.ensures.tables
