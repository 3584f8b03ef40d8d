use Rattle.std.proofs.Common.{refl}
use Rattle.lalrpop_collections.proofs.theory.lists.EachLemmas.{each_below_more, each_of_below}
use Rattle.lalrpop_states.proofs.lr1_core.coherent.is_coherent_edge.Goals as goal

pub loop-item-preserved : goal.loop-item-preserved
loop-item-preserved g c = each_below_more _ _ _ _ c.loop-item-test.true c.item-item.is c.in-Some.ensures.found c.loop-item.invariant

pub returns : goal.returns
returns g c = (λ h. each_of_below _ _ _ c.loop-item-test.false c.loop-item.invariant, λ h. refl)
