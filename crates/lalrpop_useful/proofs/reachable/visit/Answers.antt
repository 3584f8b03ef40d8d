use Rattle.std.proofs.Common.{◌≡◌, subst}
use Rattle.lalrpop_collections.specs.Words.{Visits}
use Rattle.lalrpop_useful.proofs.Types.{NonterminalString}
use Rattle.lalrpop_useful.proofs.reachable.visit.Goals as goal

pub returns : goal.returns
returns c = subst (λ (k : NonterminalString). Visits (λ a. k ≡ a) c.args.walk.now c.visit.new.self) c.in_ok-clone.ensures c.in_ok-visit.ensures
