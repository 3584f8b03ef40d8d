use Rattle.std.proofs.Common.{◌≡◌, subst, sym, ◌∙◌, refl}
use Rattle.lalrpop_lanes.specs.Words.{IsPlaceIf}
use Rattle.lalrpop_base.specs.Words.{at_place, Visits}
use Rattle.lalrpop_states.specs.declared.lr1_core.place.Place.{Place}
use Rattle.lr1_theory.proofs.theory.check.CheckSending.{same_place}
use Rattle.lalrpop_collections.proofs.theory.collections.Walks.{Visits-same}
use Rattle.lalrpop_lanes.proofs.lane_table.lane.unepsilon.pass_on.Goals as goal

pub returns : goal.returns
returns g c =
    let key : Place = record { state = c.args.state; item = c.to_lr0-item.result } in
    let same : at_place c.args.state c.args.item.now.production c.args.item.now.index ≡ key = sym (same_place key (at_place c.args.state c.args.item.now.production c.args.item.now.index) refl c.to_lr0-item.ensures.production c.to_lr0-item.ensures.index) in
    Visits-same (λ k. key ≡ k) (IsPlaceIf c.args.nullable c.args.state c.args.item.now) (λ k e. record { so = c.if-not-nullable.false; is = same ∙ e }) (λ k h. sym same ∙ h.is) c.args.walk.now c.visit.new.self (subst (λ (p : Place). Visits (λ k. p ≡ k) c.args.walk.now c.visit.new.self) c.copy.ensures c.in_ok-visit.ensures)
