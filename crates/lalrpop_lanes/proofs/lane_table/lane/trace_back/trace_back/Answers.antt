use Rattle.std.proofs.Common.{◌≡◌, [], refl, rules, subst, arith}
use Rattle.std.proofs.lemmas.Grind.{common_steps}
use Rattle.std.proofs.lemmas.List.{nil_from_length}
use Rattle.lalrpop_collections.specs.declared.collections.walk.Walk.{Walk}
use Rattle.lalrpop_base.specs.Words.{Visits}
use Rattle.lalrpop_states.specs.declared.lr1_core.place.Place.{Place}
use Rattle.lalrpop_lanes.proofs.theory.lanes.Expanded.{Expanded-kept, Expanded-none}
use Rattle.lalrpop_lanes.proofs.theory.lanes.LaneTraces.{Tracing-start, Tracing-step, Tracing-smaller, Tracing-end, Tracing-part, nothing_traced, place_listed}
use Rattle.lalrpop_lanes.proofs.theory.lanes.GainsSome.{kept_all, on_err}
use Rattle.lalrpop_lanes.proofs.lane_table.lane.trace_back.trace_back.Goals as goal

pub loop-place-init : goal.loop-place-init
loop-place-init g c = (
  Tracing-start c.args.automaton.now c.args.first c.requires.automaton c.requires.end c.args.conflict.index c.args.table.now c.new-walk.result c.visit.new.self c.new-walk.ensures.visited c.new-walk.ensures.waiting (subst (λ (p : Place). Visits (λ k. p ≡ k) c.new-walk.result c.visit.new.self) c.copy.ensures c.in_ok-visit.ensures),
  Expanded-none c.args.automaton.now c.args.conflict.index c.args.table.now c.visit.new.self c.new-expanded.result.keys c.new-expanded.ensures.empty,
)

pub step-requires-clause-listed : goal.step-requires-clause-listed
step-requires-clause-listed g c =
    let popped : Walk Place = record { visited = c.loop-place.walk.visited; waiting = c.pop_front.new.self } in
    place_listed c.args.automaton.now c.args.first c.requires.automaton c.requires.end c.args.conflict.index c.in-Some.place c.args.table.now c.loop-place.table c.loop-place.table c.loop-place.walk popped popped refl c.in-Some.ensures.items c.loop-place.invariant.0

pub step-requires-clause-expanded : goal.step-requires-clause-expanded
step-requires-clause-expanded g c =
    let popped : Walk Place = record { visited = c.loop-place.walk.visited; waiting = c.pop_front.new.self } in
    Expanded-kept c.args.automaton.now c.args.conflict.index c.loop-place.table c.loop-place.table c.loop-place.walk popped (kept_all c.loop-place.table) (λ k h. h) c.loop-place.expanded.keys c.loop-place.invariant.1

pub loop-place-preserved : goal.loop-place-preserved
loop-place-preserved g c = (
  let popped : Walk Place = record { visited = c.loop-place.walk.visited; waiting = c.pop_front.new.self } in
      Tracing-step c.args.automaton.now c.args.first c.requires.automaton c.requires.end c.args.conflict.index c.in-Some.place c.args.table.now c.loop-place.table c.step.new.table c.loop-place.walk popped c.step.new.walk refl c.in-Some.ensures.items c.loop-place.invariant.0 c.in_ok-step.ensures.gains c.in_ok-step.ensures.visits c.in_ok-step.ensures.columns c.in_ok-step.ensures.in_range,
  c.in_ok-step.ensures.expanded,
)

pub loop-place-smaller : goal.loop-place-smaller
loop-place-smaller g c =
    let popped : Walk Place = record { visited = c.loop-place.walk.visited; waiting = c.pop_front.new.self } in
    Tracing-smaller c.args.automaton.now c.args.first c.requires.automaton c.requires.end c.args.conflict.index c.in-Some.place c.args.table.now c.loop-place.table c.step.new.table c.loop-place.walk popped c.step.new.walk refl c.in-Some.ensures.items c.loop-place.invariant.0 c.in_ok-step.ensures.visits (loop-place-preserved g c).0

pub returns-in_err-step-clause-in_range : goal.returns-in_err-step-clause-in_range
returns-in_err-step-clause-in_range g c = λ r. c.in_err-step.ensures.in_range (c.loop-place.invariant.0.in_range r)

pub returns-clause-gains : goal.returns-clause-gains
returns-clause-gains g c =
    let none : c.loop-place.walk.waiting.items ≡ [] = first_of (search rules, grind (arith, common_steps), grind (arith, common_steps, nil_from_length c.loop-place.walk.waiting.items)) in
    Tracing-end c.args.automaton.now c.args.first c.requires.automaton c.requires.end c.args.conflict.index c.args.table.now c.loop-place.table c.loop-place.walk none c.loop-place.invariant.0

pub returns-in_err-visit-clause-part : goal.returns-in_err-visit-clause-part
returns-in_err-visit-clause-part g c = on_err _ (nothing_traced c.args.automaton.now c.args.first c.requires.automaton c.requires.end c.args.conflict.index c.args.table.now)

pub returns-in_err-step-clause-part : goal.returns-in_err-step-clause-part
returns-in_err-step-clause-part g c = on_err _ (let popped : Walk Place = record { visited = c.loop-place.walk.visited; waiting = c.pop_front.new.self } in
    Tracing-part c.args.automaton.now c.args.first c.requires.automaton c.requires.end c.args.conflict.index c.in-Some.place c.args.table.now c.loop-place.table c.step.new.table c.loop-place.walk popped popped refl c.in-Some.ensures.items c.loop-place.invariant.0 c.in_err-step.ensures.part)
