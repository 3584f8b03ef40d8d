use Rattle.std.proofs.Common.{ap, ◌∙◌}
use Rattle.std.proofs.lemmas.Option.{slice_get_within}
use Rattle.lalrpop_state_graph.specs.Words.{sources_left}
use Rattle.lalrpop_state_graph.proofs.theory.states.EdgeLeads.{source_of_edge}
use Rattle.lalrpop_lanes.proofs.theory.lanes.Unshifting.{Unshifting-start, Unshifting-more, left_edge, Unshifting-gains, Unshifting-part, Unshifting-visits}
use Rattle.lalrpop_lanes.proofs.theory.lanes.GainsSome.{on_err}
use Rattle.lalrpop_lanes.proofs.lane_table.lane.unshift.unshift.Goals as goal

pub loop-source-init : goal.loop-source-init
loop-source-init g c = Unshifting-start c.args.automaton.now c.args.place.now c.shifted_symbol-symbol.result.now _ c.args.table.now c.args.walk.now

pub read_edge-requires-clause-edge : goal.read_edge-requires-clause-edge
read_edge-requires-clause-edge g c =
    left_edge c.args.automaton.now c.args.place.now c.shifted_symbol-symbol.result.now _ _ _ c.in-Some.source _ _ _ _ c.requires.automaton (ap sources_left c.into_iter-source-iterator.ensures.into_iter_gives ∙ c.predecessors-source-items.ensures.sources) c.in-Some.ensures.steps c.loop-source.invariant

pub read_edge-requires-clause-there : goal.read_edge-requires-clause-there
read_edge-requires-clause-there g c =
    let h = source_of_edge c.args.automaton.now.states.now c.in-Some.source (record { 0 = c.args.place.now.state }) c.shifted_symbol-symbol.result.now (read_edge-requires-clause-edge g c) in
    slice_get_within c.args.automaton.now.states.now c.in-Some.source.0 h.0 h.1

pub loop-source-preserved : goal.loop-source-preserved
loop-source-preserved g c =
    Unshifting-more c.args.automaton.now c.args.place.now c.shifted_symbol-symbol.result.now _ _ _ c.in-Some.source _ _ _ _ _ _ c.in-Some.ensures.steps c.read_edge.ensures c.in_ok-step_back.ensures.gains c.in_ok-step_back.ensures.visits c.in_ok-step_back.ensures.columns c.in_ok-step_back.ensures.in_range c.loop-source.invariant

pub returns-in_err-step_back-clause-in_range : goal.returns-in_err-step_back-clause-in_range
returns-in_err-step_back-clause-in_range g c = λ r. c.in_err-step_back.ensures.in_range (c.loop-source.invariant.in_range r)

pub returns-clause-gains : goal.returns-clause-gains
returns-clause-gains g c =
    Unshifting-gains c.args.automaton.now c.args.place.now c.shifted_symbol-symbol.result.now c.requires.automaton c.requires.moved c.shifted_symbol-symbol.ensures _ _ _ _ _ _ c.in-None.ensures.steps.0 (ap sources_left c.into_iter-source-iterator.ensures.into_iter_gives ∙ c.predecessors-source-items.ensures.sources) c.loop-source.invariant

pub returns-clause-visits : goal.returns-clause-visits
returns-clause-visits g c =
    Unshifting-visits c.args.automaton.now c.args.place.now c.shifted_symbol-symbol.result.now c.requires.automaton c.requires.moved c.shifted_symbol-symbol.ensures _ _ _ _ _ _ c.in-None.ensures.steps.0 (ap sources_left c.into_iter-source-iterator.ensures.into_iter_gives ∙ c.predecessors-source-items.ensures.sources) c.loop-source.invariant

pub returns-in_err-step_back-clause-part : goal.returns-in_err-step_back-clause-part
returns-in_err-step_back-clause-part g c = on_err _ (Unshifting-part c.args.automaton.now c.args.place.now c.shifted_symbol-symbol.result.now c.requires.automaton c.requires.moved c.shifted_symbol-symbol.ensures _ _ c.in-Some.source _ _ _ _ _ c.read_edge.ensures c.in_err-step_back.ensures.part c.loop-source.invariant)
