use Rattle.canonical_by_number.proofs.TokenSets.{remembered_none}
use Rattle.canonical_by_number.proofs.token_sets.TokenSets.new.Goals as goal

pub invariant_of-result : goal.invariant_of-result
invariant_of-result c = remembered_none _ _ c.new.ensures.empty c.new-2.ensures.empty
