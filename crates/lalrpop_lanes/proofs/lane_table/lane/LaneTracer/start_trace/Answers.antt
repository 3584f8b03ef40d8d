use Rattle.std.proofs.Common.{refl, sym, subst}
use Rattle.lalrpop_base.specs.Words.{rules_of}
use Rattle.lalrpop_lanes.proofs.Types.{Action}
use Rattle.lalrpop_lanes.specs.Words.{TakesAction, TakesPartOfAction}
use Rattle.lalrpop_construction.specs.Words.{places_in}
use Rattle.lalrpop_lanes.proofs.theory.lane_tables.LaneTables.{same_tables}
use Rattle.lalrpop_lanes.proofs.theory.lanes.GainsSome.{on_err}
use Rattle.lalrpop_lanes.proofs.lane_table.lane.LaneTracer.start_trace.Goals as goal

pub returns-in_err-add_lookahead-in-Shift-clause-ready : goal.returns-in_err-add_lookahead-in-Shift-clause-ready
returns-in_err-add_lookahead-in-Shift-clause-ready g c =
    let ready = c.requires.ready in
    record { well_formed = ready.well_formed; coherent = ready.coherent; own = ready.own; firsts = ready.firsts; graph = ready.graph; in_range = c.in_err-add_lookahead-in-Shift.ensures.in_range ready.in_range }

pub returns-in_err-take_lane-in-Reduce-clause-ready : goal.returns-in_err-take_lane-in-Reduce-clause-ready
returns-in_err-take_lane-in-Reduce-clause-ready g c =
    let ready = c.requires.ready in
    record { well_formed = ready.well_formed; coherent = ready.coherent; own = ready.own; firsts = ready.firsts; graph = ready.graph; in_range = c.in_err-take_lane-in-Reduce.ensures.in_range ready.in_range }

pub returns-in_ok-add_lookahead-in-Shift-clause-ready : goal.returns-in_ok-add_lookahead-in-Shift-clause-ready
returns-in_ok-add_lookahead-in-Shift-clause-ready g c =
    let ready = c.requires.ready in
    record { well_formed = ready.well_formed; coherent = ready.coherent; own = ready.own; firsts = ready.firsts; graph = ready.graph; in_range = c.in_ok-add_lookahead-in-Shift.ensures.in_range ready.in_range }

pub returns-in_ok-take_lane-in-Reduce-clause-ready : goal.returns-in_ok-take_lane-in-Reduce-clause-ready
returns-in_ok-take_lane-in-Reduce-clause-ready g c =
    let ready = c.requires.ready in
    record { well_formed = ready.well_formed; coherent = ready.coherent; own = ready.own; firsts = ready.firsts; graph = ready.graph; in_range = c.in_ok-take_lane-in-Reduce.ensures.in_range ready.in_range }

pub returns-in_ok-add_lookahead-in-Shift-clause-traced : goal.returns-in_ok-add_lookahead-in-Shift-clause-traced
returns-in_ok-add_lookahead-in-Shift-clause-traced g c =
    subst (λ (a : Action). TakesAction (rules_of c.args.self.now.grammar.now) c.args.self.now.start (places_in c.args.self.now.states.now) c.args.state c.args.conflict.index a c.args.self.now.table c.add_lookahead.new.self) (sym c.in-Shift.is)
    (c.in_ok-tokens-in-Shift.tokens, c.in_ok-tokens-in-Shift.ensures, c.in_ok-add_lookahead-in-Shift.ensures.added)

pub returns-in_err-tokens-in-Shift-clause-part : goal.returns-in_err-tokens-in-Shift-clause-part
returns-in_err-tokens-in-Shift-clause-part g c = on_err _ (subst (λ (a : Action). TakesPartOfAction (rules_of c.args.self.now.grammar.now) c.args.self.now.start (places_in c.args.self.now.states.now) c.args.state c.args.conflict.index a c.args.self.now.table c.args.self.now.table) (sym c.in-Shift.is)
    (same_tables c.args.self.now.table c.args.self.now.table refl refl refl))

pub returns-in_err-add_lookahead-in-Shift-clause-part : goal.returns-in_err-add_lookahead-in-Shift-clause-part
returns-in_err-add_lookahead-in-Shift-clause-part g c = on_err _ (subst (λ (a : Action). TakesPartOfAction (rules_of c.args.self.now.grammar.now) c.args.self.now.start (places_in c.args.self.now.states.now) c.args.state c.args.conflict.index a c.args.self.now.table c.add_lookahead.new.self) (sym c.in-Shift.is)
    c.in_err-add_lookahead-in-Shift.ensures.err)
