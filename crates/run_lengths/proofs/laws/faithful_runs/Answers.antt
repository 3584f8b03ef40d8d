use Rattle.run_lengths.proofs.Ending.{productive_runs_end, runs_end}
use Rattle.run_lengths.proofs.laws.faithful_runs.Goals as goal

pub returns-clause-ends : goal.returns-clause-ends
returns-clause-ends c = runs_end

pub returns-clause-productive : goal.returns-clause-productive
returns-clause-productive c = productive_runs_end
