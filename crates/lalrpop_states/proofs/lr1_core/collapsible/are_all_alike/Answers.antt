use Rattle.std.proofs.Common.{refl}
use Rattle.lalrpop_collections.proofs.theory.lists.EachLemmas.{each_below_more, each_of_below, each_at}
use Rattle.lalrpop_states.proofs.lr1_core.collapsible.are_all_alike.Goals as goal

pub returns-then-not-is_alike_to_all : goal.returns-then-not-is_alike_to_all
returns-then-not-is_alike_to_all g c = (λ h. cc, λ each. c.if-not-is_alike_to_all.ensures.1 (each_at _ _ _ _ c.loop-state-test.true c.state-item.is each))

pub loop-state-preserved : goal.loop-state-preserved
loop-state-preserved g c = each_below_more _ _ _ _ c.loop-state-test.true c.state-item.is (c.if-not-is_alike_to_all.ensures.0 refl) c.loop-state.invariant

pub returns : goal.returns
returns g c = (λ h. each_of_below _ _ _ c.loop-state-test.false c.loop-state.invariant, λ h. refl)
