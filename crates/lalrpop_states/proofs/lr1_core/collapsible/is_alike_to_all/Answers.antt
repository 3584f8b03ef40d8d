use Rattle.std.proofs.Common.{refl}
use Rattle.lalrpop_collections.proofs.theory.lists.EachLemmas.{each_below_more, each_of_below, each_at}
use Rattle.lalrpop_states.proofs.lr1_core.collapsible.is_alike_to_all.Goals as goal

pub returns-then-not-are_alike : goal.returns-then-not-are_alike
returns-then-not-are_alike g c = (λ h. cc, λ each. c.if-not-are_alike.ensures.1 (each_at _ _ _ _ c.loop-other-test.true c.other-item.is each))

pub loop-other-preserved : goal.loop-other-preserved
loop-other-preserved g c = each_below_more _ _ _ _ c.loop-other-test.true c.other-item.is (c.if-not-are_alike.ensures.0 refl) c.loop-other.invariant

pub returns : goal.returns
returns g c = (λ h. each_of_below _ _ _ c.loop-other-test.false c.loop-other.invariant, λ h. refl)
