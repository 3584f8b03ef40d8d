use Rattle.std.proofs.Common.{List, sym, ◌∙◌, ap}
use Rattle.lalrpop_base.specs.Words.{Bits, Dotted}
use Rattle.lalrpop_traces.specs.Words.{and_behind, dotted, item_node, paths, remaining}
use Rattle.lalrpop_traces.specs.declared.trace.enumerator.EnumeratorState.{EnumeratorState}
use Rattle.lalrpop_explain.proofs.Types.{Nil}
use Rattle.lalrpop_explain.proofs.explain.examples.has_path.Goals as goal

pub returns : goal.returns
returns c = λ none.
    let walk = c.in_ok-walk.walk in
    let is = c.lr0-finished.ensures ∙ ap (λ (i : Dotted Bits). dotted i.production i.index) c.item.view_is in
    sym (c.in_ok-walk.ensures.paths ∙ ap (λ (i : Dotted Nil). paths c.args.graph.now (item_node i)) is) ∙ ap (λ (stack : List EnumeratorState). and_behind stack (remaining walk)) (c.found_trace.ensures.ended none)
