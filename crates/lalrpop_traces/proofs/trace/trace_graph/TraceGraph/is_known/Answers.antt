use Rattle.std.proofs.Common.{◌≡◌, length, refl, sym, ap, ◌∙◌, subst, arith, ⊎_elim}
use Rattle.std.specs.Prelude.{slice_get}
use Rattle.std.proofs.lemmas.Bool.{cases_lt}
use Rattle.std.proofs.lemmas.Option.{slice_get_within}
use Rattle.lalrpop_states.specs.declared.lr1_core.symbol_sets.SymbolSets.{SymbolSets}
use Rattle.lalrpop_traces.specs.Words.{IsKnownLabel}
use Rattle.lalrpop_traces.proofs.trace.trace_graph.TraceGraph.is_known.Goals as goal

pub loop-number-preserved : goal.loop-number-preserved
loop-number-preserved c =
    let P : SymbolSets → Type 0 = IsKnownLabel c.args.terminals.now in
    λ k e l at. ⊎_elim
    (λ before. c.loop-number.invariant k e before at)
    (λ here.
    let same : k ≡ c.loop-number.number = omega (arith, l, here) in
    subst P (c.labels.ensures.there e (ap (λ j. slice_get c.args.self.now.edges j) (sym same) ∙ at)) (c.if-not-is_known_label.ensures.0 refl))
    (cases_lt k c.loop-number.number)

pub returns : goal.returns
returns c = (λ h k e at. c.loop-number.invariant k e (omega (arith, slice_get_within c.args.self.now.edges k e at, ap length c.edges-number-end.ensures.edges)) at, λ h. refl)
