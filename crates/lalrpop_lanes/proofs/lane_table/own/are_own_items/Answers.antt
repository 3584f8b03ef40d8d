use Rattle.std.proofs.Common.{◌≡◌, ap, refl}
use Rattle.lalrpop_base.specs.Words.{Dotted}
use Rattle.lalrpop_collections.proofs.theory.lists.EachLemmas.{each_below_more, each_of_below, each_at}
use Rattle.lalrpop_lanes.proofs.lane_table.own.are_own_items.Goals as goal

pub returns-then-not-is_own : goal.returns-then-not-is_own
returns-then-not-is_own g c =
    let same : c.item.inside.production.now ≡ c.item-item.result.production = ap (λ (d : Dotted g.row.L.Denot). d.production) c.item.view_is in
    record { own = (λ h. cc, λ each. c.if-not-is_own.ensures.own.1 (rw same (each_at _ _ _ _ c.loop-item-test.true c.item-item.is each))) }

pub loop-item-preserved : goal.loop-item-preserved
loop-item-preserved g c =
    let same : c.item.inside.production.now ≡ c.item-item.result.production = ap (λ (d : Dotted g.row.L.Denot). d.production) c.item.view_is in
    each_below_more _ _ _ _ c.loop-item-test.true c.item-item.is (rw (← same) (c.if-not-is_own.ensures.own.0 refl)) c.loop-item.invariant

pub returns : goal.returns
returns g c = record { own = (λ h. each_of_below _ _ _ c.loop-item-test.false c.loop-item.invariant, λ h. refl) }
