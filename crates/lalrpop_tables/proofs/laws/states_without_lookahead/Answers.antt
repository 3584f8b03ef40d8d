use Rattle.lalrpop_tables.specs.Words.{lr0_construction}
use Rattle.lalrpop_tables.proofs.theory.canonical.AnyLookahead.{Law-nil-tables, Law-nil-errors, Law-nil-stops}
use Rattle.lalrpop_construction.proofs.theory.canonical.Lr0States.{Tables-free, Stops-listed}
use Rattle.lalrpop_tables.proofs.laws.states_without_lookahead.Goals as goal

pub returns-clause-tables : goal.returns-clause-tables
returns-clause-tables c g start lookahead kept = Law-nil-tables g start kept lookahead

pub returns-clause-free : goal.returns-clause-free
returns-clause-free c g start lookahead = Tables-free (lr0_construction g start lookahead)

pub returns-clause-errors : goal.returns-clause-errors
returns-clause-errors c g start lookahead kept = Law-nil-errors g start kept lookahead

pub returns-clause-stopped : goal.returns-clause-stopped
returns-clause-stopped c g start lookahead stop_after kept = Law-nil-stops g start kept lookahead stop_after

pub returns-clause-conflicts : goal.returns-clause-conflicts
returns-clause-conflicts c g start lookahead stop_after = Stops-listed (record { construction = lr0_construction g start lookahead; stop_after = stop_after })
