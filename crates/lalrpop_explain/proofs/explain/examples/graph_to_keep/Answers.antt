use Rattle.std.proofs.Common.{◌≡◌, List, [], sym, ◌∙◌, ap, subst}
use Rattle.lalrpop_base.specs.Words.{Bits, Dotted}
use Rattle.lalrpop_traces.specs.Words.{BeganIn, dotted, item_node, paths}
use Rattle.lalrpop_explain.specs.Words.{IsReductionGraph}
use Rattle.lalrpop_explain.proofs.Types.{Nil, StateIndex}
use Rattle.lalrpop_explain.proofs.theory.explained.KeptGraphs.{began_same}
use Rattle.lalrpop_explain.proofs.explain.examples.graph_to_keep.Goals as goal

pub graph_from-requires-clause-sources : goal.graph_from-requires-clause-sources
graph_from-requires-clause-sources c =
    let context = c.args.context.now in
    let item : Dotted Nil = dotted c.args.item.now.production c.args.item.now.index in
    let is = c.lr0-finished.ensures ∙ ap (λ (i : Dotted Bits). dotted i.production i.index) c.item.view_is in
    subst (λ (found : List StateIndex). BeganIn context.states.now c.args.state item found) (sym c.deref.ensures.value)
    (began_same context.states.now context.tracer.context.states.now c.args.state item c.lr0-finished.result c.in_ok-sources.sources.items context.traced_states is c.in_ok-sources.ensures.exactly)

pub returns-clause-one : goal.returns-clause-one
returns-clause-one c =
    let context = c.args.context.now in
    let item : Dotted Nil = dotted c.item.inside.production.now c.item.inside.index in
    let is = ap (λ (i : Dotted Bits). dotted i.production i.index) c.item.view_is in
    record {
      reduction = subst (λ (i : Dotted Nil). IsReductionGraph context.first_sets.now context.states.now c.args.state i c.in_ok-graph.graph) (sym is) c.in_ok-graph.ensures;
      sources = began_same context.states.now context.tracer.context.states.now c.args.state item c.lr0-finished.result c.in_ok-sources.sources.items context.traced_states c.lr0-finished.ensures c.in_ok-sources.ensures.exactly;
      paths = λ none. subst (λ (i : Dotted Nil). paths c.in_ok-graph.graph (item_node i) ≡ []) (sym is) (c.in_ok-has_path.ensures none);
    }
