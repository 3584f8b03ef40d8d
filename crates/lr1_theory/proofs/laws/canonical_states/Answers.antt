use Rattle.std.proofs.Common.{◌≡◌, true}
use Rattle.lr1_theory.proofs.theory.closures.Canonical.{tokens_exact, canonical_faithful, no_conflict_faithful, lr1_no_state_conflict}
use Rattle.lalrpop_grammar.proofs.theory.states.RightStates.{faithful_lr1}
use Rattle.lr1_theory.proofs.theory.states.Lr0.{canonical_one}
use Rattle.lr1_theory.proofs.laws.canonical_states.Goals as goal

pub returns-clause-tokens : goal.returns-clause-tokens
returns-clause-tokens c g start states tokens h = tokens_exact g start states (λ n p dot t. tokens n p dot t ≡ true) h

pub returns-clause-faithful : goal.returns-clause-faithful
returns-clause-faithful c g start states tokens h = (
  faithful_lr1 g start states,
  canonical_faithful g start states (λ n p dot t. tokens n p dot t ≡ true) h,
)

pub returns-clause-one : goal.returns-clause-one
returns-clause-one c g start states tokens = canonical_one g start states (λ n p dot t. tokens n p dot t ≡ true)

pub returns-clause-conflicts : goal.returns-clause-conflicts
returns-clause-conflicts c g start states tokens h = (
  λ none. faithful_lr1 g start states (no_conflict_faithful g start states (λ n p dot t. tokens n p dot t ≡ true) h none),
  lr1_no_state_conflict g start states (λ n p dot t. tokens n p dot t ≡ true) h,
)
