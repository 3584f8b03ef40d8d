use Rattle.std.proofs.Common.{refl, inl, inr}
use Rattle.lalrpop_collections.proofs.theory.lists.EachLemmas.{each_below_more, each_of_below}
use Rattle.lr1_theory.proofs.theory.states.CheckStates.{leads_cases}
use Rattle.lalrpop_check.proofs.check.by_number.reached.lead_to_first.Goals as goal

pub loop-state-preserved : goal.loop-state-preserved
loop-state-preserved c = each_below_more _ _ _ _ c.loop-state-test.true c.state-item.is (λ leads. elim (leads_cases c.state-item.result 0 leads) [ inl shift ↦ c.if-leads_to_first.ensures refl shift | inr go ↦ c.if-leads_to_first-2.ensures refl go ]) c.loop-state.invariant

pub returns : goal.returns
returns c = λ h target. each_of_below _ _ _ c.loop-state-test.false c.loop-state.invariant target.place target.from target.there target.leads
