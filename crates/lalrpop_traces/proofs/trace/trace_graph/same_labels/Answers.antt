use Rattle.std.proofs.Common.{◌≡◌, Bool, true, false, refl, sym, ◌∙◌}
use Rattle.std.specs.Prelude.{not}
use mathlib.Core.Bool.{true≢false}
use Rattle.lalrpop_traces.proofs.theory.traces.TraceGraphs.{labels_same, labels_differ}
use Rattle.lalrpop_traces.proofs.trace.trace_graph.same_labels.Goals as goal

not_true : (b : Bool) → not b ≡ true → b ≡ false
not_true true h = absurd (true≢false (sym h))
not_true false h = refl

pub returns-then-ne : goal.returns-then-ne
returns-then-ne c = (λ h. absurd (true≢false (sym h)), λ same. absurd (labels_differ c.args.a.now c.args.b.now (not_true _ (sym c.ne.ensures ∙ c.if-ne.true)) same))

pub returns : goal.returns
returns c = labels_same c.args.a.now c.args.b.now c.eq.result c.eq.ensures
