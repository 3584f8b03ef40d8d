use Rattle.std.proofs.Common.{subst}
use Rattle.lalrpop_base.specs.Words.{Bits}
use Rattle.canonical_by_number.specs.TokenSets.{KeepsNumbers}
use Rattle.canonical_by_number.proofs.TokenSets.{remembered_more}
use Rattle.std.proofs.Common.{List}
use Rattle.canonical_by_number.proofs.token_sets.TokenSets.number_of.Goals as goal

pub invariant_of-self : goal.invariant_of-self
invariant_of-self c = remembered_more c.self.inside.list.keys c.add_set.new.list.keys c.add_set.ensures.kept _ c.add_set.ensures.differ c.add_set.ensures.few c.self.invariant

pub invariant_of-self-2 : goal.invariant_of-self-2
invariant_of-self-2 c = remembered_more c.self.inside.list.keys c.add_set.new.list.keys c.add_set.ensures.kept _ c.add_set.ensures.differ c.add_set.ensures.few c.self.invariant

pub returns-clause-kept : goal.returns-clause-kept
returns-clause-kept c = subst (λ (old : List Bits). KeepsNumbers old c.add_set.new.list.keys) c.self.view_is c.add_set.ensures.kept
