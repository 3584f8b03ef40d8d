use Rattle.std.proofs.Common.{List, subst}
use Rattle.std.specs.Prelude.{IfOk}
use Rattle.lalrpop_traces.proofs.Types.{Production}
use Rattle.lalrpop_traces.specs.Words.{IsExampleOf, SpellsDerivation, CarryRightSides, path_of, IsPath}
use Rattle.lalrpop_traces.specs.declared.trace.enumerator.EnumeratorState.{EnumeratorState}
use Rattle.lalrpop_traces.specs.declared.trace.example.Example.{Example}
use Rattle.lalrpop_traces.proofs.theory.traces.PathsExact.{if_ok}
use Rattle.lalrpop_traces.proofs.theory.traces.SpelledDerivations.{derivation}
use Rattle.lalrpop_traces.proofs.trace.enumerator.PathEnumerator.example.Goals as goal

pub returns-clause-derivation : goal.returns-clause-derivation
returns-clause-derivation c =
    let walk = c.args.self.now in
    let g = walk.graph.now in
    let path = path_of walk.stack.items in
    if_ok c.example_of.result (IsExampleOf g path) (λ (example : Example). (productions : List Production) → CarryRightSides productions g.edges → IsPath g walk.start path → SpellsDerivation productions example)
    (subst (λ (xs : List EnumeratorState). IfOk c.example_of.result (IsExampleOf g (path_of xs))) c.deref.ensures.value c.example_of.ensures)
    (λ example is productions carry is_path. derivation g productions walk.start path example carry is_path is)
