use Rattle.std.proofs.Common.{◌∙◌, ap}
use Rattle.lalrpop_base.specs.Words.{Bits, Dotted}
use Rattle.lalrpop_traces.specs.Words.{dotted}
use Rattle.lalrpop_explain.proofs.theory.explained.KeptGraphs.{like_graph}
use Rattle.lalrpop_explain.proofs.explain.examples.graph_from.Goals as goal

pub returns-in_ok-graph-in-Some : goal.returns-in_ok-graph-in-Some
returns-in_ok-graph-in-Some c =
    let context = c.args.context.now in
    let g = context.first_sets.now in
    let states = context.states.now in
    like_graph g states c.in-Some.like.now c.args.item.now c.args.sources.now c.in-Some.ensures.like (c.in-Some.ensures.kept g states c.requires.kept) c.args.state c.lr0-finished.result (c.lr0-finished.ensures ∙ ap (λ (i : Dotted Bits). dotted i.production i.index) c.item.view_is) c.requires.sources
    c.in_ok-graph-in-Some.graph c.requires.states c.requires.item c.in_ok-graph-in-Some.ensures.ordered c.in_ok-graph-in-Some.ensures.traced
