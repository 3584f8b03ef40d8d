use Rattle.std.proofs.Common.{◌≡◌, true}
use Rattle.lr1_theory.proofs.theory.runs.Prompt.{limit_enough, steps_on_right, refused_promptly}
use Rattle.lr1_theory.proofs.laws.canonical_runs.Goals as goal

pub returns-clause-ends : goal.returns-clause-ends
returns-clause-ends c g start states tokens = limit_enough g start states (λ n p dot t. tokens n p dot t ≡ true)

pub returns-clause-right : goal.returns-clause-right
returns-clause-right c g start states tokens = steps_on_right g start states (λ n p dot t. tokens n p dot t ≡ true)

pub returns-clause-prompt : goal.returns-clause-prompt
returns-clause-prompt c g start states tokens = refused_promptly g start states (λ n p dot t. tokens n p dot t ≡ true)
