use Rattle.std.proofs.Common.{List, subst, sym}
use Rattle.std.specs.Prelude.{Contains}
use Rattle.lalrpop_collections.proofs.theory.lists.Members.{contains_tail}
use Rattle.lalrpop_useful.proofs.Types.{NonterminalString}
use Rattle.lalrpop_useful.proofs.cycles.known.meet.Goals as goal

pub loop-name-preserved : goal.loop-name-preserved
loop-name-preserved c b later = c.loop-name.invariant b (subst (λ (names : List NonterminalString). Contains names b) (sym c.in-Some.ensures.steps) (contains_tail c.in-Some.name.now c.next.new.self b later))
