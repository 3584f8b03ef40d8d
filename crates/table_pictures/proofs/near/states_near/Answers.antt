use Rattle.std.proofs.Common.{length, subst, sym, ℕ, List, ◌∙◌}
use Rattle.table_pictures.specs.Paths.{AreEdgesBelow, AreNear}
use Rattle.table_pictures.proofs.near.states_near.Goals as goal

pub near_number-requires-clause-below : goal.near_number-requires-clause-below
near_number-requires-clause-below c = subst (AreEdgesBelow (length c.args.states.now)) (sym c.deref.ensures.value) c.in_ok-edges.ensures.below

pub returns-clause-exactly : goal.returns-clause-exactly
returns-clause-exactly c = subst (λ (edges : List (ℕ × ℕ)). AreNear edges c.args.number c.args.depth c.in_ok-near.near.items) (c.deref.ensures.value ∙ c.in_ok-edges.ensures.pairs) c.in_ok-near.ensures.exactly
