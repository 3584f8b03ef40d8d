use Rattle.std.proofs.Common.{refl}
use Rattle.lalrpop_collections.proofs.theory.lists.EachLemmas.{each_below_more, each_of_below}
use Rattle.lalrpop_collections.proofs.theory.lists.Places.{slice_get_at}
use Rattle.lalrpop_check.proofs.check.by_number.leading.all_lead_on.Goals as goal

pub lead_on-requires : goal.lead_on-requires
lead_on-requires c k among = c.requires c.loop-state.state-index k c.state-item.result (slice_get_at c.args.states.now c.loop-state.state-index c.state-item.result c.loop-state-test.true c.state-item.is) among

pub loop-state-preserved : goal.loop-state-preserved
loop-state-preserved c = each_below_more _ _ _ _ c.loop-state-test.true c.state-item.is (c.if-not-lead_on.ensures refl) c.loop-state.invariant

pub returns : goal.returns
returns c = λ h. each_of_below _ _ _ c.loop-state-test.false c.loop-state.invariant
