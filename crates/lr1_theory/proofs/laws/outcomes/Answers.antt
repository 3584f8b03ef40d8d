use Rattle.lr1_theory.proofs.theory.runs.Outcomes.{has_outcome, one_outcome}
use Rattle.lr1_theory.proofs.laws.outcomes.Goals as goal

pub returns-clause-some : goal.returns-clause-some
returns-clause-some c = has_outcome

pub returns-clause-unique : goal.returns-clause-unique
returns-clause-unique c = one_outcome
