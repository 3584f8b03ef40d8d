use Rattle.std.proofs.Common.{◌≡◌, ◌∙◌, subst}
use Rattle.lalrpop_base.specs.Words.{Visits}
use Rattle.lalrpop_states.specs.declared.lr1_core.place.Place.{Place}
use Rattle.lalrpop_lanes.proofs.theory.lanes.Gains.{Gains-successor}
use Rattle.lalrpop_lanes.proofs.theory.lanes.GainsSome.{GainsSome-refused, GainsSome-successor, on_err}
use Rattle.lalrpop_lanes.proofs.lane_table.lane.unshift.step_back.Goals as goal

pub returns-clause-gains : goal.returns-clause-gains
returns-clause-gains c = λ k. Gains-successor c.args.source (record { 0 = c.args.place.now.state }) _ _ c.in_ok-add_successor.ensures.added k

pub returns-clause-visits : goal.returns-clause-visits
returns-clause-visits c = subst (λ (p : Place). Visits (λ k. p ≡ k) c.args.walk.now c.visit.new.self) (c.copy.ensures ∙ c.back_in-back.ensures) c.in_ok-visit.ensures

pub returns-in_err-add_successor-clause-part : goal.returns-in_err-add_successor-clause-part
returns-in_err-add_successor-clause-part c = on_err _ (GainsSome-refused c.args.source (record { 0 = c.args.place.now.state }) _ _ c.in_err-add_successor.ensures.err)

pub returns-in_err-visit-clause-part : goal.returns-in_err-visit-clause-part
returns-in_err-visit-clause-part c = on_err _ (GainsSome-successor c.args.source (record { 0 = c.args.place.now.state }) _ _ c.in_ok-add_successor.ensures.added)
