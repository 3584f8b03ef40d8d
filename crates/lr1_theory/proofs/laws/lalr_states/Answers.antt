use Rattle.std.proofs.Common.{◌≡◌, true}
use Rattle.lr1_theory.proofs.theory.collapse.LalrStates.{lalr_faithful, faithful_lalr, no_conflict_lalr, lalr_no_conflict}
use Rattle.lr1_theory.proofs.theory.collapse.Collapse.{collapsed_lr0, collapsed_tokens}
use Rattle.lr1_theory.proofs.laws.lalr_states.Goals as goal

pub returns-clause-faithful : goal.returns-clause-faithful
returns-clause-faithful c g start states lr0 holds = (faithful_lalr g start states lr0 holds, lalr_faithful g start states lr0 holds)

pub returns-clause-collapsed : goal.returns-clause-collapsed
returns-clause-collapsed c g start before after tokens group canonical collapse = (
  collapsed_lr0 g start before (λ n p dot t. tokens n p dot t ≡ true) canonical group after collapse,
  collapsed_tokens g start before (λ n p dot t. tokens n p dot t ≡ true) canonical group after collapse,
)

pub returns-clause-conflicts : goal.returns-clause-conflicts
returns-clause-conflicts c g start states lr0 holds = (no_conflict_lalr g start states lr0 holds, lalr_no_conflict g start states lr0 holds)
