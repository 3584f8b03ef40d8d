use Rattle.std.proofs.Common.{subst}
use Rattle.lalrpop_base.specs.Words.{contents}
use Rattle.table_numbers.specs.Lists.{Lists}
use Rattle.table_numbers.specs.Numbers.{AreTablesOf}
use Rattle.table_numbers.proofs.tables.NumberedTables.to_states.Goals as goal

pub returns : goal.returns
returns c = subst (λ (x : Lists). AreTablesOf x c.args.self.now (contents x.terminals c.in_ok-states.states.items)) c.in_ok-names.ensures (c.in_ok-states.ensures.tables c.in_ok-names.ensures)
