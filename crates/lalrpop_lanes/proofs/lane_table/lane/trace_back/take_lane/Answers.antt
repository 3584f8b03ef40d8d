use Rattle.std.proofs.Common.{◌≡◌, ap, length}
use Rattle.lalrpop_base.specs.Words.{Dotted, at_place}
use Rattle.lalrpop_lanes.proofs.Types.{Nil}
use Rattle.lalrpop_states.specs.declared.lr1_core.place.Place.{Place}
use Rattle.lalrpop_lanes.proofs.theory.lanes.LanesTaken.{lane_taken, nothing_taken, part_taken}
use Rattle.lalrpop_lanes.proofs.theory.lanes.GainsSome.{on_err}
use Rattle.lalrpop_lanes.proofs.lane_table.lane.trace_back.take_lane.Goals as goal

pub returns-clause-taken : goal.returns-clause-taken
returns-clause-taken g c =
    let make : Dotted Nil → Place = λ i. record { state = c.args.state.0; item = i } in
    let first : make c.lr0-item.result ≡ at_place c.args.state.0 c.args.production.now (length c.args.production.now.symbols) = ap make (cc) in
    lane_taken c.args.automaton.now c.args.state c.args.production.now c.args.conflict.index _ _ c.add_lookahead.new.self _ (cc) c.in_ok-add_lookahead.ensures.added (make c.lr0-item.result) first c.in_ok-trace_back.ensures.gains

pub returns-in_err-trace_back-clause-in_range : goal.returns-in_err-trace_back-clause-in_range
returns-in_err-trace_back-clause-in_range g c = λ r. c.in_err-trace_back.ensures.in_range (c.in_ok-add_lookahead.ensures.in_range r)

pub returns-clause-in_range : goal.returns-clause-in_range
returns-clause-in_range g c = λ r. c.in_ok-trace_back.ensures.in_range (c.in_ok-add_lookahead.ensures.in_range r)

pub returns-in_err-add_lookahead-clause-part : goal.returns-in_err-add_lookahead-clause-part
returns-in_err-add_lookahead-clause-part g c = on_err _ (nothing_taken c.args.automaton.now c.args.state c.args.production.now c.args.conflict.index _ _ c.in_err-add_lookahead.ensures.err)

pub returns-in_err-trace_back-clause-part : goal.returns-in_err-trace_back-clause-part
returns-in_err-trace_back-clause-part g c = on_err _ (let make : Dotted Nil → Place = λ i. record { state = c.args.state.0; item = i } in
    let first : make c.lr0-item.result ≡ at_place c.args.state.0 c.args.production.now (length c.args.production.now.symbols) = ap make (cc) in
    part_taken c.args.automaton.now c.args.state c.args.production.now c.args.conflict.index _ _ c.add_lookahead.new.self _ (cc) c.in_ok-add_lookahead.ensures.added (make c.lr0-item.result) first c.in_err-trace_back.ensures.part)
