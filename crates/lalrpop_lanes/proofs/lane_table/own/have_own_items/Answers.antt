use Rattle.std.proofs.Common.{refl}
use Rattle.lalrpop_collections.proofs.theory.lists.EachLemmas.{each_below_more, each_of_below, each_at}
use Rattle.lalrpop_lanes.proofs.theory.lanes.OwnItems.{own_by_places, places_of_own}
use Rattle.lalrpop_lanes.proofs.lane_table.own.have_own_items.Goals as goal

pub returns-then-not-are_own_items : goal.returns-then-not-are_own_items
returns-then-not-are_own_items g c = record {
  own = (
    λ h. cc,
    λ own. c.if-not-are_own_items.ensures.own.1 (rw c.deref.ensures.value (each_at _ _ _ _ c.loop-state-test.true c.state-item.is (places_of_own _ _ own))),
  );
}

pub loop-state-preserved : goal.loop-state-preserved
loop-state-preserved g c =
    each_below_more _ _ _ _ c.loop-state-test.true c.state-item.is (rw (← c.deref.ensures.value) (c.if-not-are_own_items.ensures.own.0 refl)) c.loop-state.invariant

pub returns : goal.returns
returns g c = record { own = (λ h. own_by_places _ _ (each_of_below _ _ _ c.loop-state-test.false c.loop-state.invariant), λ h. refl) }
