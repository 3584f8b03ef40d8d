use Rattle.lalrpop_tables.proofs.theory.canonical.AnyLookahead.{Law-set-tables, Law-set-errors}
use Rattle.lalrpop_tables.proofs.laws.states_with_sets.Goals as goal

pub returns-clause-tables : goal.returns-clause-tables
returns-clause-tables c g start kept = Law-set-tables g start kept

pub returns-clause-errors : goal.returns-clause-errors
returns-clause-errors c g start stop_after kept = Law-set-errors g start kept stop_after
