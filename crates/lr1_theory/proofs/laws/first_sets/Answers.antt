use Rattle.std.proofs.Common.{◌≡◌, true}
use Rattle.lalrpop_grammar.proofs.theory.first.FirstSets.{first_by, nullable_by}
use Rattle.lr1_theory.proofs.laws.first_sets.Goals as goal

pub returns-clause-first : goal.returns-clause-first
returns-clause-first c g null first = first_by g (λ a. null a ≡ true) (λ a t. first a t ≡ true)

pub returns-clause-nullable : goal.returns-clause-nullable
returns-clause-nullable c g null first = nullable_by g (λ a. null a ≡ true) (λ a t. first a t ≡ true)
